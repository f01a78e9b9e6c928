use Rattle.std.proofs.Common.{refl}
use Rattle.sqlite.specs.Held.{state}
use Rattle.mx_layout.specs.kept.Cells.{kept_sector1}
use Rattle.mx_layout.specs.declared.fault.Table.TheVariants as table
use Rattle.mx_registers.specs.points.Points.{moving}
use Rattle.mx_moves.specs.steps.Tables.{table_made}
use Rattle.mx_migrate.proofs.LookLemmas.{look_stops, looked_writes}
use Rattle.mx_migrate.proofs.RunLemmas.{has_sectors, stopped_by}
use Rattle.mx_migrate.proofs.tables.ChangeToSpansMigrate.run.Goals as goal

pub returns-in_err-no_sector_left-clause-runs : goal.returns-in_err-no_sector_left-clause-runs
returns-in_err-no_sector_left-clause-runs g c =
    let mark = c.args.self.now.mark in
    let old = state g.S.Store c.args.tx.now.conn.now in
    stopped_by _ _ _ old (state g.S.Store c.no_sector_left.new.tx.conn.now) c.in_err-no_sector_left.field-0.0 c.from_residual.result c.from_residual.ensures.1
    (look_stops kept_sector1 _ _ _ (moving 1 mark) (λ at here. here.0) (has_sectors mark) old _ c.in_err-no_sector_left.field-0.0 (λ at left. (refl, left)) c.in_err-no_sector_left.ensures.sees)

pub returns-clause-runs : goal.returns-clause-runs
returns-clause-runs g c =
    let mark = c.args.self.now.mark in
    let old = state g.S.Store c.args.tx.now.conn.now in
    looked_writes kept_sector1 _ _ _ (moving 1 mark) (λ at here. here.0) (has_sectors mark) old (state g.S.Store c.no_sector_left.new.tx.conn.now) (state g.S.Store c.write_span_table.new.tx.conn.now) c.in_ok-no_sector_left.field-0 c.in_ok-no_sector_left.ensures.sees (moving 2 0) (table_made table.Span2 (moving 2 0))
    c.write_span_table.result c.reached.result c.reached.ensures (λ clean there at none made. record { empty = none; point = refl; made = made }) c.write_span_table.ensures.alters
