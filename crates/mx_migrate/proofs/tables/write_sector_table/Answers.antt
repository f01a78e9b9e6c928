use Rattle.sqlite.specs.Held.{state}
use Rattle.mx_migrate.proofs.WriteLemmas.{made_then}
use Rattle.mx_migrate.proofs.tables.write_sector_table.Goals as goal

pub returns-clause-alters : goal.returns-clause-alters
returns-clause-alters g c =
    made_then c.args.to.now (state g.S.Store c.args.tx.now.conn.now) (state g.S.Store c.create_sector2.new.tx.conn.now) (state g.S.Store c.set_point.new.tx.conn.now) _ c.set_point.result c.in_ok-create_sector2.ensures.alters c.set_point.ensures.writes
