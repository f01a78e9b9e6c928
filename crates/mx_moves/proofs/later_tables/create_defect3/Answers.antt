use Rattle.sqlite.specs.Held.{state}
use Rattle.mx_layout.specs.CreateTexts.{defect3_text}
use Rattle.mx_layout.specs.declared.fault.Table.TheVariants as table
use Rattle.mx_layout.proofs.StepLemmas.{defect3_made}
use Rattle.mx_moves.proofs.AlterLemmas.{makes_table}
use Rattle.mx_moves.proofs.TableTexts.{defect3_new}
use Rattle.mx_tables.proofs.InsertsProofs.SetLemmas.{on_weaker}
use Rattle.mx_moves.proofs.later_tables.create_defect3.Goals as goal

pub returns-clause-alters : goal.returns-clause-alters
returns-clause-alters g c =
    makes_table defect3_text (state g.S.Store c.args.tx.now.conn.now) (state g.S.Store c.execute.new.tx.conn.now) c.execute.result c.execute.ensures.runs c.execute.ensures.stays.inside c.execute.ensures.stays.within 28 table.Defect3 defect3_made defect3_new

pub returns-clause-open : goal.returns-clause-open
returns-clause-open g c clean begun = on_weaker c.execute.result (λ stays. stays.was_open) (c.execute.ensures.stays.inside clean begun)
