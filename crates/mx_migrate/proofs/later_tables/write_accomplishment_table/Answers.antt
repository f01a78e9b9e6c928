use Rattle.sqlite.specs.Held.{state}
use Rattle.mx_migrate.proofs.LaterLemmas.{accomplishments_made_then}
use Rattle.mx_migrate.proofs.later_tables.write_accomplishment_table.Goals as goal

pub returns-clause-alters : goal.returns-clause-alters
returns-clause-alters g c =
    accomplishments_made_then c.args.to.now (state g.S.Store c.args.tx.now.conn.now) (state g.S.Store c.drop_defect.new.tx.conn.now) (state g.S.Store c.create_done3.new.tx.conn.now) (state g.S.Store c.set_point.new.tx.conn.now) _ _ c.set_point.result
    c.in_ok-drop_defect.ensures.alters c.in_ok-create_done3.ensures.alters c.set_point.ensures.writes
