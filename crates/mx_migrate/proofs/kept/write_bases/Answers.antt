use Rattle.sqlite.specs.Held.{state}
use Rattle.mx_migrate.proofs.KeepLemmas.{bases_then}
use Rattle.mx_migrate.proofs.kept.write_bases.Goals as goal

pub returns-clause-alters : goal.returns-clause-alters
returns-clause-alters g c =
    bases_then c.args.rows.now.items c.args.to.now (state g.S.Store c.args.tx.now.conn.now) (state g.S.Store c.set_point.new.tx.conn.now) (state g.S.Store c.insert_bases.new.tx.conn.now) _ c.insert_bases.result c.in_ok-set_point.ensures.writes c.insert_bases.ensures.writes
