use Rattle.sqlite.specs.Held.{state}
use Rattle.mx_layout.specs.CreateTexts.{fit1_dropped}
use Rattle.mx_layout.specs.Tables.{fit1}
use Rattle.mx_layout.proofs.StepLemmas.{fit1_gone}
use Rattle.mx_moves.proofs.AlterLemmas.{drops_table}
use Rattle.mx_moves.proofs.tables.drop_fit1.Goals as goal

pub returns-clause-alters : goal.returns-clause-alters
returns-clause-alters g c =
    drops_table fit1_dropped (state g.S.Store c.args.tx.now.conn.now) (state g.S.Store c.execute.new.tx.conn.now) c.execute.result c.execute.ensures.runs c.execute.ensures.stays.inside c.execute.ensures.stays.within 21 fit1 fit1_gone
