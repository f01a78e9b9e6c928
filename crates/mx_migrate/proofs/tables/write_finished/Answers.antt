use Rattle.sqlite.specs.Held.{state}
use Rattle.mx_migrate.proofs.KeepLemmas.{finished_then}
use Rattle.mx_migrate.proofs.tables.write_finished.Goals as goal

pub returns-clause-alters : goal.returns-clause-alters
returns-clause-alters g c =
    finished_then c.args.to.now (state g.S.Store c.args.tx.now.conn.now) (state g.S.Store c.index_registers.new.tx.conn.now) (state g.S.Store c.set_point.new.tx.conn.now) _ c.set_point.result c.in_ok-index_registers.ensures.alters c.set_point.ensures.writes
