use Rattle.std.proofs.Common.{◌∷◌, subst}
use Rattle.std.specs.Prelude.{⊤}
use Rattle.sqlite.specs.Held.{state}
use Rattle.mx_base.specs.declared.rows.rows.DoneRow.{DoneRow}
use Rattle.mx_layout.specs.kept.Cells.{kept_done3}
use Rattle.mx_table_rows.specs.totals.Calls.{ChangesRows}
use Rattle.mx_table_rows.proofs.TotalsProofs.ChangeLemmas.{inserts_is}
use Rattle.mx_table_rows.proofs.totals.done.set_done.Goals as goal

pub returns-in-Some-clause-changes : goal.returns-in-Some-clause-changes
returns-in-Some-clause-changes g c dated =
    let old = state g.S.Store c.args.tx.now.conn.now in
    let new = state g.S.Store c.insert.new.tx.conn.now in
    subst (λ (row : DoneRow). ChangesRows kept_done3 (λ rows. kept_done3.as_cells row ∷ rows) (λ _. ⊤) (λ _. ⊥) old new c.insert.result) c.in-Some.ensures.value
    (inserts_is kept_done3 c.in-Some.dated old new c.insert.result c.insert.ensures.inserts)
