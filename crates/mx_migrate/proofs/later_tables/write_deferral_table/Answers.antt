use Rattle.sqlite.specs.Held.{state}
use Rattle.mx_migrate.proofs.LaterLemmas.{deferrals_made_then}
use Rattle.mx_migrate.proofs.later_tables.write_deferral_table.Goals as goal

pub returns-clause-alters : goal.returns-clause-alters
returns-clause-alters g c =
    deferrals_made_then c.args.to.now (state g.S.Store c.args.tx.now.conn.now) (state g.S.Store c.create_defect3.new.tx.conn.now) (state g.S.Store c.set_point.new.tx.conn.now) _ c.set_point.result c.in_ok-create_defect3.ensures.alters c.set_point.ensures.writes
