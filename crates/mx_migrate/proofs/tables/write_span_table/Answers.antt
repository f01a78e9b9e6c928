use Rattle.sqlite.specs.Held.{state}
use Rattle.mx_migrate.proofs.WriteLemmas.{changed_then}
use Rattle.mx_migrate.proofs.tables.write_span_table.Goals as goal

pub returns-clause-alters : goal.returns-clause-alters
returns-clause-alters g c =
    changed_then c.args.to.now (state g.S.Store c.args.tx.now.conn.now) (state g.S.Store c.drop_sector1.new.tx.conn.now) (state g.S.Store c.create_span2.new.tx.conn.now) (state g.S.Store c.index_span2.new.tx.conn.now) (state g.S.Store c.set_point.new.tx.conn.now) _ _ _ c.set_point.result
    c.in_ok-drop_sector1.ensures.alters c.in_ok-create_span2.ensures.alters c.in_ok-index_span2.ensures.alters c.set_point.ensures.writes
