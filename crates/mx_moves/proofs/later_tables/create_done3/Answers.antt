use Rattle.sqlite.specs.Held.{state}
use Rattle.mx_layout.specs.CreateTexts.{done3_text}
use Rattle.mx_layout.specs.declared.fault.Table.TheVariants as table
use Rattle.mx_layout.proofs.StepLemmas.{done3_made}
use Rattle.mx_moves.proofs.AlterLemmas.{makes_table}
use Rattle.mx_moves.proofs.TableTexts.{done3_new}
use Rattle.mx_moves.proofs.later_tables.create_done3.Goals as goal

pub returns-clause-alters : goal.returns-clause-alters
returns-clause-alters g c =
    makes_table done3_text (state g.S.Store c.args.tx.now.conn.now) (state g.S.Store c.execute.new.tx.conn.now) c.execute.result c.execute.ensures.runs c.execute.ensures.stays.inside c.execute.ensures.stays.within 30 table.Done3 done3_made done3_new
