use Rattle.std.proofs.Common.{refl}
use Rattle.sqlite.specs.Held.{state}
use Rattle.mx_layout.specs.kept.Cells.{kept_defect}
use Rattle.mx_layout.specs.declared.fault.Table.TheVariants as table
use Rattle.mx_registers.specs.points.Points.{moving_from}
use Rattle.mx_moves.specs.steps.Tables.{table_made}
use Rattle.mx_migrate.proofs.LaterLemmas.{has_deferrals}
use Rattle.mx_migrate.proofs.LookLemmas.{look_stops, looked_writes}
use Rattle.mx_migrate.proofs.RunLemmas.{stopped_by}
use Rattle.mx_migrate.proofs.later_tables.ChangeToAccomplishmentsMigrate.run.Goals as goal

pub returns-in_err-none_left-clause-runs : goal.returns-in_err-none_left-clause-runs
returns-in_err-none_left-clause-runs g c =
    let mark = c.args.self.now.mark in
    let old = state g.S.Store c.args.tx.now.conn.now in
    stopped_by _ _ _ old (state g.S.Store c.none_left.new.tx.conn.now) c.in_err-none_left.field-0.0 c.from_residual.result c.from_residual.ensures.1
    (look_stops kept_defect _ _ _ (moving_from 2 1 mark) (λ at here. here.0) (has_deferrals mark) old _ c.in_err-none_left.field-0.0 (λ at left. (refl, left)) c.in_err-none_left.ensures.sees)

pub returns-clause-runs : goal.returns-clause-runs
returns-clause-runs g c =
    let mark = c.args.self.now.mark in
    let old = state g.S.Store c.args.tx.now.conn.now in
    looked_writes kept_defect _ _ _ (moving_from 2 1 mark) (λ at here. here.0) (has_deferrals mark) old (state g.S.Store c.none_left.new.tx.conn.now) (state g.S.Store c.write_accomplishment_table.new.tx.conn.now) c.in_ok-none_left.field-0 c.in_ok-none_left.ensures.sees (moving_from 2 2 0) (table_made table.Done3 (moving_from 2 2 0))
    c.write_accomplishment_table.result c.reached.result c.reached.ensures (λ clean there at none made. record { empty = none; point = refl; made = made }) c.write_accomplishment_table.ensures.alters
