use Rattle.std.proofs.Common.{◌≡◌, ℕ, take, filter, not, Ok}
use Rattle.sqlite.specs.Held.{state}
use Rattle.mx_layout.specs.kept.Cells.{kept_done3}
use Rattle.mx_table_rows.specs.totals.LateSteps.{is_any_line}
use Rattle.mx_table_rows.specs.totals.Puts.{WritesRows}
use Rattle.mx_table_rows.proofs.totals.late.delete_lines.Given as goal

-- the rows so far are deleted
abbrev pub invariant-rows : goal.invariant-rows
invariant-rows g l = record {
  same_reference : l.tx.conn.ghost_name ≡ l.fn.tx.conn.ghost_name;
  writes : WritesRows {V = ℕ} kept_done3 (λ rows. filter (λ row. not (is_any_line (take l.row-index l.rows) row)) rows) (state g.S.Store l.fn.tx.conn.now) (state g.S.Store l.tx.conn.now) (Ok 0);
}
