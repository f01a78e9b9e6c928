use Rattle.sqlite.specs.Held.{state}
use Rattle.mx_migrate.proofs.WriteLemmas.{component_then}
use Rattle.mx_migrate.proofs.components.write_component.Goals as goal

pub returns-clause-alters : goal.returns-clause-alters
returns-clause-alters g c =
    component_then c.args.spans.now.items c.args.to.now (state g.S.Store c.args.tx.now.conn.now) (state g.S.Store c.insert_spans.new.tx.conn.now) (state g.S.Store c.delete_fittings.new.tx.conn.now) (state g.S.Store c.delete_removals.new.tx.conn.now) (state g.S.Store c.set_point.new.tx.conn.now) _ _ _ c.set_point.result
    c.in_ok-insert_spans.ensures.writes c.in_ok-delete_fittings.ensures.writes c.in_ok-delete_removals.ensures.writes c.set_point.ensures.writes
