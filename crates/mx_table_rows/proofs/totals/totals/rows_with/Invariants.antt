use Rattle.std.proofs.Common.{◌≡◌, List, take, Ok}
use Rattle.sqlite.specs.Held.{state}
use Rattle.mx_base.specs.declared.rows.rows.TotalRow.{TotalRow}
use Rattle.mx_table_rows.specs.totals.Steps.{ReadsTotals}
use Rattle.mx_table_rows.proofs.totals.totals.rows_with.Given as goal

-- the totals so far are read
abbrev pub invariant-items : goal.invariant-items
invariant-items g l = record {
  same_reference : l.tx.conn.ghost_name ≡ l.fn.tx.conn.ghost_name;
  reads : ReadsTotals l.added (take l.item-index l.items) (λ (xs : List TotalRow). xs) (state g.S.Store l.fn.tx.conn.now) (state g.S.Store l.tx.conn.now) (Ok l.rows.items);
}
