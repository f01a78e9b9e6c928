use Rattle.std.proofs.Common.{inl, inr, refl, arith}
use Rattle.sqlite.specs.Held.{state}
use Rattle.sqlite.specs.State.{HasCleanDisk}
use Rattle.mx_layout.specs.kept.Cells.{kept_fit1, kept_removal1}
use Rattle.mx_layout.specs.declared.fault.Table.TheVariants as table
use Rattle.mx_registers.specs.points.Points.{moving}
use Rattle.mx_moves.specs.steps.Tables.{table_made}
use Rattle.mx_migrate.proofs.LookLemmas.{look_stops, looked_writes, sees_then}
use Rattle.mx_migrate.proofs.RunLemmas.{stopped_by}
use Rattle.mx_migrate.proofs.ShiftLemmas.{has_fittings}
use Rattle.mx_migrate.proofs.tables.ChangeToTotalsMigrate.run.Goals as goal

pub returns-in_err-none_left-clause-runs : goal.returns-in_err-none_left-clause-runs
returns-in_err-none_left-clause-runs g c =
    let mark = c.args.self.now.mark in
    let old = state g.S.Store c.args.tx.now.conn.now in
    stopped_by _ _ _ old (state g.S.Store c.none_left.new.tx.conn.now) c.in_err-none_left.field-0.0 c.from_residual.result c.from_residual.ensures.1
    (look_stops kept_fit1 _ _ _ (moving 2 mark) (λ at here. here.0) (has_fittings mark) old _ c.in_err-none_left.field-0.0 (λ at left. (inl refl, left)) c.in_err-none_left.ensures.sees)

pub returns-in_err-none_left-2-clause-runs : goal.returns-in_err-none_left-2-clause-runs
returns-in_err-none_left-2-clause-runs g c =
    let mark = c.args.self.now.mark in
    let old = state g.S.Store c.args.tx.now.conn.now in
    let both = sees_then kept_fit1 kept_removal1 (λ _ has. has) old (state g.S.Store c.none_left.new.tx.conn.now) (state g.S.Store c.none_left-2.new.tx.conn.now) c.in_ok-none_left.field-0 _ c.in_ok-none_left.ensures.sees c.in_err-none_left-2.ensures.sees in
    stopped_by _ _ _ old (state g.S.Store c.none_left-2.new.tx.conn.now) c.in_err-none_left-2.field-0.0 c.from_residual-in_err-none_left-2.result c.from_residual-in_err-none_left-2.ensures.1
    (look_stops kept_removal1 _ _ _ (moving 2 mark) (λ at here. here.0) (has_fittings mark) old _ c.in_err-none_left-2.field-0.0 (λ at left. (inr refl, left)) both)

pub returns-clause-runs : goal.returns-clause-runs
returns-clause-runs g c =
    let mark = c.args.self.now.mark in
    let old = state g.S.Store c.args.tx.now.conn.now in
    let one = state g.S.Store c.none_left.new.tx.conn.now in
    let two = state g.S.Store c.none_left-2.new.tx.conn.now in
    let fitted = c.in_ok-none_left.ensures.sees in
    let removed = c.in_ok-none_left-2.ensures.sees in
    let both = sees_then kept_fit1 kept_removal1 (λ _ has. has) old one two c.in_ok-none_left.field-0 _ fitted removed in
    let early : HasCleanDisk two → HasCleanDisk one = λ clean. omega (arith, removed.within.survives.clean) in
    looked_writes kept_removal1 _ _ _ (moving 2 mark) (λ at here. here.0) (has_fittings mark) old two (state g.S.Store c.write_total_table.new.tx.conn.now) c.in_ok-none_left-2.field-0 both (moving 3 0) (table_made table.Total2 (moving 3 0))
    c.write_total_table.result c.reached.result c.reached.ensures (λ clean there at none made. record { no_fitting = fitted.empty (early clean) there; no_removal = none; point = refl; made = made }) c.write_total_table.ensures.alters
