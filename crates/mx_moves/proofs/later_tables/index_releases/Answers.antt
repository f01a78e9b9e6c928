use Rattle.sqlite.specs.Held.{state}
use Rattle.mx_layout.specs.CreateTexts.{crs_by_item_text}
use Rattle.mx_layout.specs.Tables.{crs, crs_by_item}
use Rattle.mx_layout.proofs.StepLemmas.{crs_by_item_made}
use Rattle.mx_moves.proofs.AlterLemmas.{makes_index}
use Rattle.mx_moves.proofs.later_tables.index_releases.Goals as goal

pub returns-clause-alters : goal.returns-clause-alters
returns-clause-alters g c =
    makes_index crs_by_item_text (state g.S.Store c.args.tx.now.conn.now) (state g.S.Store c.execute.new.tx.conn.now) c.execute.result c.execute.ensures.runs c.execute.ensures.stays.inside c.execute.ensures.stays.within 34 crs crs_by_item crs_by_item_made
