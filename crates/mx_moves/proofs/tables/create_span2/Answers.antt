use Rattle.sqlite.specs.Held.{state}
use Rattle.mx_layout.specs.CreateTexts.{span2_text}
use Rattle.mx_layout.specs.declared.fault.Table.TheVariants as table
use Rattle.mx_layout.proofs.StepLemmas.{span2_made}
use Rattle.mx_moves.proofs.AlterLemmas.{makes_table}
use Rattle.mx_moves.proofs.TableTexts.{span2_new}
use Rattle.mx_moves.proofs.tables.create_span2.Goals as goal

pub returns-clause-alters : goal.returns-clause-alters
returns-clause-alters g c =
    makes_table span2_text (state g.S.Store c.args.tx.now.conn.now) (state g.S.Store c.execute.new.tx.conn.now) c.execute.result c.execute.ensures.runs c.execute.ensures.stays.inside c.execute.ensures.stays.within 17 table.Span2 span2_made span2_new
