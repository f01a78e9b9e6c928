use Rattle.sqlite.specs.Held.{state}
use Rattle.mx_layout.specs.CreateTexts.{defect3_by_aircraft_text}
use Rattle.mx_layout.specs.Tables.{defect3, defect3_by_aircraft}
use Rattle.mx_layout.proofs.StepLemmas.{defect3_by_aircraft_made}
use Rattle.mx_moves.proofs.AlterLemmas.{makes_index}
use Rattle.mx_moves.proofs.later_tables.index_deferrals.Goals as goal

pub returns-clause-alters : goal.returns-clause-alters
returns-clause-alters g c =
    makes_index defect3_by_aircraft_text (state g.S.Store c.args.tx.now.conn.now) (state g.S.Store c.execute.new.tx.conn.now) c.execute.result c.execute.ensures.runs c.execute.ensures.stays.inside c.execute.ensures.stays.within 32 defect3 defect3_by_aircraft defect3_by_aircraft_made
