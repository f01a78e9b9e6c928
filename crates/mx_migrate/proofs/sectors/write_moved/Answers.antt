use Rattle.sqlite.specs.Held.{state}
use Rattle.mx_migrate.proofs.WriteLemmas.{moved_then}
use Rattle.mx_migrate.proofs.sectors.write_moved.Goals as goal

pub returns-clause-alters : goal.returns-clause-alters
returns-clause-alters g c =
    moved_then c.args.rows.now.items c.args.to.now (state g.S.Store c.args.tx.now.conn.now) (state g.S.Store c.insert_sectors.new.tx.conn.now) (state g.S.Store c.delete_sectors.new.tx.conn.now) (state g.S.Store c.set_point.new.tx.conn.now) _ _ c.set_point.result
    c.in_ok-insert_sectors.ensures.writes c.in_ok-delete_sectors.ensures.writes c.set_point.ensures.writes
