use Rattle.sqlite.specs.Held.{state}
use Rattle.mx_migrate.proofs.LaterLemmas.{accomplishments_then}
use Rattle.mx_migrate.proofs.accomplishments.write_accomplishments.Goals as goal

pub returns-clause-alters : goal.returns-clause-alters
returns-clause-alters g c =
    accomplishments_then c.args.rows.now.items c.args.to.now (state g.S.Store c.args.tx.now.conn.now) (state g.S.Store c.set_point.new.tx.conn.now) (state g.S.Store c.insert_accomplishments.new.tx.conn.now) (state g.S.Store c.delete_bases_of.new.tx.conn.now) _ _ c.delete_bases_of.result
    c.in_ok-set_point.ensures.writes c.in_ok-insert_accomplishments.ensures.writes c.delete_bases_of.ensures.writes
