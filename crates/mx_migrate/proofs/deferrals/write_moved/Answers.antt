use Rattle.sqlite.specs.Held.{state}
use Rattle.mx_registers.specs.points.Points.{moving_from}
use Rattle.mx_layout.specs.kept.Cells.{kept_defect, kept_defect3}
use Rattle.mx_book_tables.specs.stands.Schemas.{schema_at}
use Rattle.mx_migrate.proofs.LaterLemmas.{deferrals_free, deferrals_point, new_deferrals_there}
use Rattle.mx_migrate.proofs.WriteLemmas.{batch_then}
use Rattle.mx_migrate.proofs.deferrals.write_moved.Goals as goal

pub returns-clause-alters : goal.returns-clause-alters
returns-clause-alters g c =
    batch_then kept_defect kept_defect3 (schema_at (moving_from 2 1 0)) new_deferrals_there deferrals_free deferrals_point c.args.rows.now.items c.args.to.now
    (state g.S.Store c.args.tx.now.conn.now) (state g.S.Store c.insert_deferrals.new.tx.conn.now) (state g.S.Store c.delete_deferrals.new.tx.conn.now) (state g.S.Store c.set_point.new.tx.conn.now) _ _ c.set_point.result
    c.in_ok-insert_deferrals.ensures.writes c.in_ok-delete_deferrals.ensures.writes c.set_point.ensures.writes
