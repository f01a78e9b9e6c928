use Rattle.sqlite.specs.Held.{state}
use Rattle.mx_migrate.proofs.KeepLemmas.{total_then}
use Rattle.mx_migrate.proofs.kept.write_total.Goals as goal

pub returns-clause-alters : goal.returns-clause-alters
returns-clause-alters g c =
    total_then c.args.row.now c.args.to.now (state g.S.Store c.args.tx.now.conn.now) (state g.S.Store c.set_point.new.tx.conn.now) (state g.S.Store c.insert_total.new.tx.conn.now) _ c.insert_total.result c.in_ok-set_point.ensures.writes c.insert_total.ensures.writes
