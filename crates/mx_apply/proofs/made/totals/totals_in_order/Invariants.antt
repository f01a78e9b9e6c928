use Rattle.std.proofs.Common.{◌≡◌, ◌≤◌, ℕ, All, Ok, filter, take}
use Rattle.sqlite.specs.Held.{state}
use Rattle.mx_registers.specs.kept.Totals.{is_among, total_rows}
use Rattle.mx_row_rules.specs.changes.Kept.{HasLife}
use Rattle.mx_lookups.specs.numbers.AnyRows.{ReadsAny}
use Rattle.mx_lookups.specs.numbers.Reads.{Reads}
use Rattle.mx_apply.specs.made.Found.{AreTotalsOf}
use Rattle.mx_apply.proofs.made.totals.totals_in_order.Given as goal

-- the totals so far are those of the first of the numbers
abbrev pub invariant-numbers : goal.invariant-numbers
invariant-numbers g l = record {
  same_reference : l.tx.conn.ghost_name ≡ l.fn.tx.conn.ghost_name;
  some : 1 ≤ l.i;
  reads : Reads {V = ℕ} (λ book done. l.totals.items ≡ filter (is_among (take l.i l.numbers)) (total_rows book)) (state g.S.Store l.fn.tx.conn.now) (state g.S.Store l.tx.conn.now) (Ok 0);
  any_rows : ReadsAny {V = ℕ} (λ trees done. AreTotalsOf (take l.i l.numbers) trees l.totals.items) (state g.S.Store l.fn.tx.conn.now) (state g.S.Store l.tx.conn.now) (Ok 0);
  lives : All HasLife l.totals.items;
}
