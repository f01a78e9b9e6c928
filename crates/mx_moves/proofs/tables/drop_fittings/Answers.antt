use Rattle.sqlite.specs.Held.{state}
use Rattle.mx_layout.specs.Steps.{schema_after}
use Rattle.mx_layout.specs.Tables.{removal1}
use Rattle.mx_layout.proofs.StepLemmas.{removal1_gone, schema_at}
use Rattle.mx_moves.specs.Changes.{unchanged}
use Rattle.mx_moves.proofs.AlterLemmas.{turns_gone}
use Rattle.mx_moves.proofs.RowLemmas.{alters_then}
use Rattle.mx_moves.proofs.tables.drop_fittings.Goals as goal

pub returns-clause-alters : goal.returns-clause-alters
unfolding schema_at
returns-clause-alters g c =
    let s0 = state g.S.Store c.args.tx.now.conn.now in
    let s1 = state g.S.Store c.drop_fit1.new.tx.conn.now in
    let s2 = state g.S.Store c.drop_removal1.new.tx.conn.now in
    alters_then (schema_after 21) (schema_after 22) (schema_after 23) unchanged unchanged (turns_gone (schema_after 22) (schema_after 23) removal1.tree removal1_gone.next) s0 s1 s2 _ c.drop_removal1.result c.in_ok-drop_fit1.ensures.alters c.drop_removal1.ensures.alters
