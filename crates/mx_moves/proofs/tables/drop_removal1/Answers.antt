use Rattle.sqlite.specs.Held.{state}
use Rattle.mx_layout.specs.CreateTexts.{removal1_dropped}
use Rattle.mx_layout.specs.Tables.{removal1}
use Rattle.mx_layout.proofs.StepLemmas.{removal1_gone}
use Rattle.mx_moves.proofs.AlterLemmas.{drops_table}
use Rattle.mx_moves.proofs.tables.drop_removal1.Goals as goal

pub returns-clause-alters : goal.returns-clause-alters
returns-clause-alters g c =
    drops_table removal1_dropped (state g.S.Store c.args.tx.now.conn.now) (state g.S.Store c.execute.new.tx.conn.now) c.execute.result c.execute.ensures.runs c.execute.ensures.stays.inside c.execute.ensures.stays.within 22 removal1 removal1_gone
