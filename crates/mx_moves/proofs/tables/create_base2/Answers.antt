use Rattle.sqlite.specs.Held.{state}
use Rattle.mx_layout.specs.CreateTexts.{base2_text}
use Rattle.mx_layout.specs.declared.fault.Table.TheVariants as table
use Rattle.mx_layout.proofs.StepLemmas.{base2_made}
use Rattle.mx_moves.proofs.AlterLemmas.{makes_table}
use Rattle.mx_moves.proofs.TableTexts.{base2_new}
use Rattle.mx_tables.proofs.InsertsProofs.SetLemmas.{on_weaker}
use Rattle.mx_moves.proofs.tables.create_base2.Goals as goal

pub returns-clause-alters : goal.returns-clause-alters
returns-clause-alters g c =
    makes_table base2_text (state g.S.Store c.args.tx.now.conn.now) (state g.S.Store c.execute.new.tx.conn.now) c.execute.result c.execute.ensures.runs c.execute.ensures.stays.inside c.execute.ensures.stays.within 24 table.Base2 base2_made base2_new

pub returns-clause-open : goal.returns-clause-open
returns-clause-open g c clean begun = on_weaker c.execute.result (λ stays. stays.was_open) (c.execute.ensures.stays.inside clean begun)
