use Rattle.std.proofs.Common.{◌≡◌, ◌≤◌, ◌<◌, Ok, subst, arith}
use Rattle.sqlite.specs.Held.{state}
use Rattle.mx_migrate.proofs.SettleProofs.FollowLemmas.{followed_more, followed_none, follows, follows_none, follows_stop}
use Rattle.mx_migrate.proofs.SettleProofs.SettleLemmas.{HasGone, gone_ends, gone_more, gone_newest, gone_none, gone_stops, settles_none, stopped_by}
use Rattle.mx_migrate.proofs.settle.settling.go_on.Goals as goal

pub returns-in_err-at-clause-settles : goal.returns-in_err-at-clause-settles
returns-in_err-at-clause-settles g c =
    let old = state g.S.Store c.args.conn.now in
    let new = state g.S.Store c.place.new.conn in
    stopped_by c.args.at_most old new c.in_err-at.field-0.0 c.from_residual.result c.from_residual.ensures.1 (settles_none c.args.at_most old new c.in_err-at.field-0.0 c.in_err-at.ensures.tells)

pub returns-in_err-at-clause-follows : goal.returns-in_err-at-clause-follows
returns-in_err-at-clause-follows g c =
    let new = state g.S.Store c.place.new.conn in
    let e = c.in_err-at.field-0.0 in
    follows_stop g.S.Store c.args.conn.now new e c.from_residual.result c.from_residual.ensures.1 (follows_none g.S.Store c.args.conn.now new e c.in_err-at.ensures.tells c.in_err-at.ensures.read)

pub commits-init : goal.commits-init
commits-init g c =
    let new = state g.S.Store c.place.new.conn in
    record {
      idle = c.place.ensures.idle;
      gone = gone_none (state g.S.Store c.args.conn.now) new c.in_ok-at.at c.in_ok-at.ensures.tells;
      followed = followed_none g.S.Store c.args.conn.now c.place.new.conn c.in_ok-at.at c.in_ok-at.ensures.tells c.in_ok-at.ensures.read;
    }

pub commits-preserved : goal.commits-preserved
commits-preserved g c = record {
  idle = c.advance_knowing.ensures.idle;
  gone = gone_more (state g.S.Store c.args.conn.now) (state g.S.Store c.commits.conn) c.commits.done c.commits.at c.in_ok-at-2.at c.commits.known c.advance_knowing.new.known (state g.S.Store c.advance_knowing.new.conn) (omega (arith, c.if-at-ge-NEWEST_LAYOUT.false)) c.commits.invariant.gone c.in_ok-at-2.ensures.advances c.in_ok-at-2.ensures.rows c.in_ok-at-2.ensures.book c.in_ok-at-2.ensures.keeps c.in_ok-at-2.ensures.knows;
  followed = followed_more g.S.Store c.args.conn.now (state g.S.Store c.commits.conn) c.commits.at c.commits.invariant.followed (omega (arith, c.if-at-ge-NEWEST_LAYOUT.false)) (state g.S.Store c.advance_knowing.new.conn)
      (λ clean. omega (arith, c.in_ok-at-2.ensures.advances.clean)) c.in_ok-at-2.at;
}

pub returns-in_err-at-2-clause-settles : goal.returns-in_err-at-2-clause-settles
returns-in_err-at-2-clause-settles g c =
    let old = state g.S.Store c.args.conn.now in
    let new = state g.S.Store c.advance_knowing.new.conn in
    let low : c.commits.done < c.args.at_most = omega (arith, c.commits-test.true) in
    stopped_by c.args.at_most old new c.in_err-at-2.field-0.0 c.from_residual-in_err-at-2.result c.from_residual-in_err-at-2.ensures.1
    (gone_stops old (state g.S.Store c.commits.conn) c.args.at_most c.commits.done c.commits.at c.commits.known c.in_err-at-2.field-0.0 new c.commits.invariant.gone low c.in_err-at-2.ensures.advances c.in_err-at-2.ensures.rows c.in_err-at-2.ensures.book)

pub returns-in_err-at-2-clause-follows : goal.returns-in_err-at-2-clause-follows
returns-in_err-at-2-clause-follows g c =
    let now = state g.S.Store c.commits.conn in
    let new = state g.S.Store c.advance_knowing.new.conn in
    let more = followed_more g.S.Store c.args.conn.now now c.commits.at c.commits.invariant.followed (omega (arith, c.if-at-ge-NEWEST_LAYOUT.false)) new (λ clean. omega (arith, c.in_err-at-2.ensures.advances.clean)) c.commits.at in
    follows g.S.Store c.args.conn.now new c.commits.at more c.from_residual-in_err-at-2.result

pub returns-then-at-ge-NEWEST_LAYOUT-clause-follows : goal.returns-then-at-ge-NEWEST_LAYOUT-clause-follows
returns-then-at-ge-NEWEST_LAYOUT-clause-follows g c = follows g.S.Store c.args.conn.now (state g.S.Store c.commits.conn) c.commits.at c.commits.invariant.followed (Ok c.commits.at)

pub returns-clause-follows : goal.returns-clause-follows
returns-clause-follows g c = follows g.S.Store c.args.conn.now (state g.S.Store c.commits.conn) c.commits.at c.commits.invariant.followed (Ok c.commits.at)

pub returns-then-at-ge-NEWEST_LAYOUT-clause-settles : goal.returns-then-at-ge-NEWEST_LAYOUT-clause-settles
returns-then-at-ge-NEWEST_LAYOUT-clause-settles g c =
    let low : c.commits.done ≤ c.args.at_most = omega (arith, c.commits-test.true) in
    gone_newest (state g.S.Store c.args.conn.now) (state g.S.Store c.commits.conn) c.args.at_most c.commits.done c.commits.at c.commits.known c.commits.invariant.gone low c.if-at-ge-NEWEST_LAYOUT.true

pub returns-clause-settles : goal.returns-clause-settles
returns-clause-settles g c =
    let old = state g.S.Store c.args.conn.now in
    let now = state g.S.Store c.commits.conn in
    let all : c.commits.done ≡ c.args.at_most = omega (arith, c.commits-test.false, c.commits.auto.done-end) in
    gone_ends old now c.args.at_most c.commits.at c.commits.known (subst (λ n. HasGone n c.commits.at c.commits.known old now) all c.commits.invariant.gone)
