use Rattle.std.proofs.Common.{◌≡◌, ◌⊎◌, List, Vec, Ok, Err, refl, subst₂}
use Rattle.std.specs.declared.alloc.Global.{Global}
use Rattle.sqlite.specs.Held.{state}
use Rattle.mx_base.specs.declared.rows.rows.FittingRow.{FittingRow}
use Rattle.mx_base.specs.declared.rows.rows.RemovalRow.{RemovalRow}
use Rattle.mx_registers.specs.points.Points.{moving}
use Rattle.mx_layout.specs.TableName.{TableName}
use Rattle.mx_layout.specs.declared.fault.TableFault.TheVariants.{Memory, Damaged}
use Rattle.mx_moves.specs.steps.Pairing.{spans_made}
use Rattle.mx_migrate.proofs.RunLemmas.{stopped_by}
use Rattle.mx_migrate.proofs.ShiftLemmas.{component_moves, fittings_stop, pairs_fail, removals_stop}
use Rattle.mx_migrate.proofs.components.MoveComponentMigrate.run.Goals as goal

abbrev fittings : Vec FittingRow Global → List FittingRow
fittings v = v.items

abbrev removals : Vec RemovalRow Global → List RemovalRow
removals v = v.items

pub returns-in_err-fittings-clause-runs : goal.returns-in_err-fittings-clause-runs
returns-in_err-fittings-clause-runs g c =
    stopped_by _ _ _ (state g.S.Store c.args.tx.now.conn.now) (state g.S.Store c.fittings_of.new.tx.conn.now) c.in_err-fittings.field-0.0 c.from_residual.result c.from_residual.ensures.1
    (fittings_stop c.args.self.now.mark c.args.self.now.component fittings _ _ c.in_err-fittings.field-0.0 c.in_err-fittings.ensures.reads)

pub returns-in_err-removals-clause-runs : goal.returns-in_err-removals-clause-runs
returns-in_err-removals-clause-runs g c =
    stopped_by _ _ _ (state g.S.Store c.args.tx.now.conn.now) (state g.S.Store c.removals_of.new.tx.conn.now) c.in_err-removals.field-0.0 c.from_residual-in_err-removals.result c.from_residual-in_err-removals.ensures.1
    (removals_stop c.args.self.now.mark c.args.self.now.component fittings _ _ c.in_ok-fittings.fittings c.in_ok-fittings.ensures.reads removals _ c.in_err-removals.field-0.0 c.in_err-removals.ensures.reads)

pub returns-in_err-spans-clause-runs : goal.returns-in_err-spans-clause-runs
returns-in_err-spans-clause-runs g c =
    let e = c.in_err-spans.field-0.0 in
    stopped_by _ _ _ (state g.S.Store c.args.tx.now.conn.now) (state g.S.Store c.removals_of.new.tx.conn.now) e c.from_residual-in_err-spans.result c.from_residual-in_err-spans.ensures.1
    (pairs_fail c.args.self.now.mark c.args.self.now.component fittings _ _ c.in_ok-fittings.fittings c.in_ok-fittings.ensures.reads removals _ c.in_ok-removals.removals c.in_ok-removals.ensures.reads e
    (subst₂ (λ fs rs. (e ≡ Memory) ⊎ ((name : TableName) × (e ≡ Damaged name) × (spans_made fs rs ≡ Err name))) c.deref.ensures.value c.deref-2.ensures.value c.in_err-spans.ensures.cause))

pub returns-clause-runs : goal.returns-clause-runs
returns-clause-runs g c =
    let spans = c.in_ok-spans.spans.items in
    let pairs = subst₂ (λ fs rs. spans_made fs rs ≡ Ok spans) c.deref.ensures.value c.deref-2.ensures.value c.in_ok-spans.ensures.spans in
    component_moves c.args.self.now.mark c.args.self.now.component fittings (state g.S.Store c.args.tx.now.conn.now) (state g.S.Store c.fittings_of.new.tx.conn.now) c.in_ok-fittings.fittings c.in_ok-fittings.ensures.reads
    removals (state g.S.Store c.removals_of.new.tx.conn.now) c.in_ok-removals.removals c.in_ok-removals.ensures.reads (state g.S.Store c.write_component.new.tx.conn.now) (moving 2 c.args.self.now.component) spans
    c.write_component.result c.reached.result c.reached.ensures pairs refl c.write_component.ensures.alters
