use Rattle.sqlite.specs.Held.{state}
use Rattle.mx_layout.specs.CreateTexts.{base2_dropped}
use Rattle.mx_layout.specs.Tables.{base2}
use Rattle.mx_layout.proofs.StepLemmas.{base2_gone}
use Rattle.mx_moves.proofs.AlterLemmas.{drops_table}
use Rattle.mx_moves.proofs.later_tables.drop_base2.Goals as goal

pub returns-clause-alters : goal.returns-clause-alters
returns-clause-alters g c =
    drops_table base2_dropped (state g.S.Store c.args.tx.now.conn.now) (state g.S.Store c.execute.new.tx.conn.now) c.execute.result c.execute.ensures.runs c.execute.ensures.stays.inside c.execute.ensures.stays.within 31 base2 base2_gone
