use Rattle.sqlite.specs.Held.{state}
use Rattle.mx_layout.specs.CreateTexts.{extension_by_defect_text}
use Rattle.mx_layout.specs.Tables.{extension, extension_by_defect}
use Rattle.mx_layout.proofs.StepLemmas.{extension_by_defect_made}
use Rattle.mx_moves.proofs.AlterLemmas.{makes_index}
use Rattle.mx_moves.proofs.tables.index_extensions.Goals as goal

pub returns-clause-alters : goal.returns-clause-alters
returns-clause-alters g c =
    makes_index extension_by_defect_text (state g.S.Store c.args.tx.now.conn.now) (state g.S.Store c.execute.new.tx.conn.now) c.execute.result c.execute.ensures.runs c.execute.ensures.stays.inside c.execute.ensures.stays.within 26 extension extension_by_defect extension_by_defect_made
