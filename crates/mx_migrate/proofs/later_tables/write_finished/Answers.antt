use Rattle.sqlite.specs.Held.{state}
use Rattle.mx_migrate.proofs.LaterLemmas.{later_finished_then}
use Rattle.mx_migrate.proofs.later_tables.write_finished.Goals as goal

pub returns-clause-alters : goal.returns-clause-alters
returns-clause-alters g c =
    later_finished_then c.args.to.now (state g.S.Store c.args.tx.now.conn.now) (state g.S.Store c.drop_base2.new.tx.conn.now) (state g.S.Store c.index_layout3.new.tx.conn.now) (state g.S.Store c.set_point.new.tx.conn.now) _ _ c.set_point.result
    c.in_ok-drop_base2.ensures.alters c.in_ok-index_layout3.ensures.alters c.set_point.ensures.writes
