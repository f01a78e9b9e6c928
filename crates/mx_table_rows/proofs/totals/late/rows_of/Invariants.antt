use Rattle.std.proofs.Common.{◌≡◌, List, take, Ok}
use Rattle.sqlite.specs.Held.{state}
use Rattle.mx_base.specs.declared.rows.rows.DoneRow.{DoneRow}
use Rattle.mx_table_rows.specs.totals.LateSteps.{ReadsLate, AreOfEach, AreUnread}
use Rattle.mx_table_rows.proofs.totals.late.rows_of.Given as goal

-- the accomplishments of the items so far are read
abbrev pub invariant-items : goal.invariant-items
invariant-items g l = record {
  same_reference : l.tx.conn.ghost_name ≡ l.fn.tx.conn.ghost_name;
  reads : ReadsLate (λ trees (done : List DoneRow). AreOfEach (take l.item-index l.items) trees done) (AreUnread l.items) (state g.S.Store l.fn.tx.conn.now) (state g.S.Store l.tx.conn.now) (Ok l.rows.items);
}
