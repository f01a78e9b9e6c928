use Rattle.sqlite.specs.Held.{state}
use Rattle.mx_layout.specs.CreateTexts.{sector2_by_aircraft_text}
use Rattle.mx_layout.specs.Tables.{sector2, sector2_by_aircraft}
use Rattle.mx_layout.proofs.StepLemmas.{sector2_by_aircraft_made}
use Rattle.mx_moves.proofs.AlterLemmas.{makes_index}
use Rattle.mx_moves.proofs.later_tables.index_sectors.Goals as goal

pub returns-clause-alters : goal.returns-clause-alters
returns-clause-alters g c =
    makes_index sector2_by_aircraft_text (state g.S.Store c.args.tx.now.conn.now) (state g.S.Store c.execute.new.tx.conn.now) c.execute.result c.execute.ensures.runs c.execute.ensures.stays.inside c.execute.ensures.stays.within 33 sector2 sector2_by_aircraft sector2_by_aircraft_made
