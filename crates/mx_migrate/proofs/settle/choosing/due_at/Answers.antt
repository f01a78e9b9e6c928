use Rattle.std.proofs.Common.{rules, ◌≢◌, None, arith}
use Rattle.sqlite.specs.Held.{state}
use Rattle.mx_migrate.proofs.SettleProofs.ChoiceLemmas.{chooses_at, chooses_beside, chooses_none, last_step_of}
use Rattle.mx_migrate.proofs.settle.choosing.due_at.Goals as goal

pub returns-then-at-ge-NEWEST_LAYOUT-clause-chooses : goal.returns-then-at-ge-NEWEST_LAYOUT-clause-chooses
returns-then-at-ge-NEWEST_LAYOUT-clause-chooses g c begun =
    let old = state g.S.Store c.args.tx.now.conn.now in
    chooses_none c.args.at c.args.known.now old old c.if-at-ge-NEWEST_LAYOUT.true

pub returns-in-1-clause-chooses : goal.returns-in-1-clause-chooses
returns-in-1-clause-chooses g c begun =
    chooses_beside c.args.at c.args.known.now _ _ c.sectors_due.result
    (chooses_at c.args.at None None 1 _ _ c.sectors_due.result (omega (arith, c.if-at-ge-NEWEST_LAYOUT.false)) (λ _. c.in-1.is) (c.sectors_due.ensures.chooses begun))

pub returns-in-2-clause-chooses : goal.returns-in-2-clause-chooses
returns-in-2-clause-chooses g c begun =
    chooses_beside c.args.at c.args.known.now _ _ c.component_due.result
    (chooses_at c.args.at None None 2 _ _ c.component_due.result (omega (arith, c.if-at-ge-NEWEST_LAYOUT.false)) (λ _. c.in-2.is) (c.component_due.ensures.chooses begun))

pub returns-in-3-clause-chooses : goal.returns-in-3-clause-chooses
returns-in-3-clause-chooses g c begun =
    chooses_at c.args.at c.args.known.now c.total_due.new.known 3 (state g.S.Store c.args.tx.now.conn.now) (state g.S.Store c.total_due.new.tx.conn.now) c.total_due.result (omega (arith, c.if-at-ge-NEWEST_LAYOUT.false)) (λ _. c.in-3.is) (c.total_due.ensures.chooses begun)

pub returns-in_default-clause-chooses : goal.returns-in_default-clause-chooses
returns-in_default-clause-chooses g c begun =
    let not_0 : c.args.at.step ≢ 0 = search rules in
    let not_1 : c.args.at.step ≢ 1 = search rules in
    let not_2 : c.args.at.step ≢ 2 = search rules in
    let not_3 : c.args.at.step ≢ 3 = search rules in
    chooses_at c.args.at c.args.known.now c.bases_due.new.known 4 (state g.S.Store c.args.tx.now.conn.now) (state g.S.Store c.bases_due.new.tx.conn.now) c.bases_due.result (omega (arith, c.if-at-ge-NEWEST_LAYOUT.false))
    (last_step_of c.args.at not_0 not_1 not_2 not_3) (c.bases_due.ensures.chooses begun)
