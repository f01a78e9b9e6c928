use Rattle.std.proofs.Common.{◌≡◌, List, take, Ok}
use Rattle.sqlite.specs.Held.{state}
use Rattle.mx_base.specs.declared.rows.rows.DoneRow.{DoneRow}
use Rattle.mx_table_rows.specs.totals.LateSteps.{ReadsLate, AreTaken, OneCantTake}
use Rattle.mx_table_rows.proofs.totals.late.rows_with.Given as goal

-- what becomes of the accomplishments so far is made
abbrev pub invariant-rows : goal.invariant-rows
invariant-rows g l = record {
  same_reference : l.tx.conn.ghost_name ≡ l.fn.tx.conn.ghost_name;
  reads : ReadsLate (λ trees (made : List DoneRow). AreTaken l.added l.landed (take l.row-index l.rows) trees made) (OneCantTake l.added l.landed l.rows) (state g.S.Store l.fn.tx.conn.now) (state g.S.Store l.tx.conn.now) (Ok l.late.items);
}
