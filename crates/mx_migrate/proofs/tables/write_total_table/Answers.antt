use Rattle.sqlite.specs.Held.{state}
use Rattle.mx_migrate.proofs.KeepLemmas.{totals_then}
use Rattle.mx_migrate.proofs.tables.write_total_table.Goals as goal

pub returns-clause-alters : goal.returns-clause-alters
returns-clause-alters g c =
    totals_then c.args.to.now (state g.S.Store c.args.tx.now.conn.now) (state g.S.Store c.drop_fittings.new.tx.conn.now) (state g.S.Store c.create_total2.new.tx.conn.now) (state g.S.Store c.set_point.new.tx.conn.now) _ _ c.set_point.result
    c.in_ok-drop_fittings.ensures.alters c.in_ok-create_total2.ensures.alters c.set_point.ensures.writes
