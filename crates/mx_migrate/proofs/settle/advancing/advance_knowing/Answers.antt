use Rattle.std.proofs.Common.{Err, None, Ok, inl, inr, sym, subst, arith}
use Rattle.sqlite.specs.Held.{state}
use Rattle.mx_migrate.specs.settle.Advances.{Advances, AdvancesBook, AdvancesRows}
use Rattle.mx_migrate.specs.settle.Choices.{Chooses}
use Rattle.mx_migrate.proofs.SettleProofs.AdvanceLemmas.{book_commits, book_stays, book_stops_first, book_stops_second, commits, keeps_behind, keeps_staying, knows_behind, knows_then, nothing_then, rows_commit, rows_stay, rows_stop_first, rows_stop_second, stays, stops_first, stops_second}
use Rattle.mx_migrate.proofs.SettleProofs.FollowLemmas.{follows_none, follows_on, way_for}
use Rattle.mx_migrate.proofs.settle.advancing.advance_knowing.Goals as goal

-- ── the point was not answered ──

pub returns-in-Err-clause-advances : goal.returns-in-Err-clause-advances
returns-in-Err-clause-advances g c =
    stops_first (state g.S.Store c.args.conn.now) (state g.S.Store c.place.new.conn) c.in-Err.fault c.in-Err.ensures.tells

pub returns-in-Err-clause-follows : goal.returns-in-Err-clause-follows
returns-in-Err-clause-follows g c = follows_none g.S.Store c.args.conn.now (state g.S.Store c.place.new.conn) c.in-Err.fault c.in-Err.ensures.tells c.in-Err.ensures.read

pub returns-in-Err-clause-rows : goal.returns-in-Err-clause-rows
returns-in-Err-clause-rows g c at placed knows = rows_stop_first (state g.S.Store c.args.conn.now) (state g.S.Store c.place.new.conn) c.in-Err.fault c.in-Err.ensures.tells at placed

pub returns-in-Err-clause-book : goal.returns-in-Err-clause-book
returns-in-Err-clause-book g c book knows =
    book_stops_first (state g.S.Store c.args.conn.now) (state g.S.Store c.place.new.conn) c.in-Err.fault c.in-Err.ensures.tells book

-- ── a step was due ──

pub returns-in-Ok-Some-clause-advances : goal.returns-in-Ok-Some-clause-advances
returns-in-Ok-Some-clause-advances g c =
    let mid = state g.S.Store c.place.new.conn in
    let ready = state g.S.Store c.next_due.new.conn in
    let after = c.next_due.new.known in
    commits (state g.S.Store c.args.conn.now) mid ready c.in-Ok.at c.in-Ok.ensures.tells c.next_due.ensures.unchanged c.args.known.now after c.in-Ok-Some.due
    (subst (λ o. Chooses c.in-Ok.at c.args.known.now after mid ready (Ok o)) c.in-Ok-Some.field-0-is c.in-Ok-Some.ensures.chooses)
    (state g.S.Store c.commit_step.new.conn) c.commit_step.result c.commit_step.ensures.commits

pub returns-in-Ok-Some-clause-follows : goal.returns-in-Ok-Some-clause-follows
returns-in-Ok-Some-clause-follows g c =
    let mid = state g.S.Store c.place.new.conn in
    let ready = state g.S.Store c.next_due.new.conn in
    let chosen = subst (λ o. Chooses c.in-Ok.at c.args.known.now c.next_due.new.known mid ready (Ok o)) c.in-Ok-Some.field-0-is c.in-Ok-Some.ensures.chooses in
    let file = c.in-Ok.ensures.tells.of_file in
    follows_on g.S.Store c.args.conn.now mid c.in-Ok.at c.in-Ok.ensures.tells c.in-Ok.ensures.read (state g.S.Store c.commit_step.new.conn) c.commit_step.result
    (λ clean. omega (arith, c.commit_step.ensures.commits.clean, c.next_due.ensures.unchanged.survives.clean)) (inr (way_for c.in-Ok-Some.due c.in-Ok.at file (chosen.fits file)))

pub returns-in-Ok-Some-clause-rows : goal.returns-in-Ok-Some-clause-rows
returns-in-Ok-Some-clause-rows g c at placed knows =
    let mid = state g.S.Store c.place.new.conn in
    let ready = state g.S.Store c.next_due.new.conn in
    let after = c.next_due.new.known in
    rows_commit (state g.S.Store c.args.conn.now) mid ready c.in-Ok.at c.in-Ok.ensures.tells c.next_due.ensures.unchanged c.args.known.now after c.in-Ok-Some.due
    (subst (λ o. Chooses c.in-Ok.at c.args.known.now after mid ready (Ok o)) c.in-Ok-Some.field-0-is c.in-Ok-Some.ensures.chooses)
    (state g.S.Store c.commit_step.new.conn) c.commit_step.result c.commit_step.ensures.commits at placed knows

pub returns-in-Ok-Some-clause-keeps : goal.returns-in-Ok-Some-clause-keeps
returns-in-Ok-Some-clause-keeps g c at placed knows =
    let mid = state g.S.Store c.place.new.conn in
    let ready = state g.S.Store c.next_due.new.conn in
    let after = c.next_due.new.known in
    keeps_behind (state g.S.Store c.args.conn.now) mid ready c.in-Ok.at c.in-Ok.ensures.tells c.next_due.ensures.unchanged c.args.known.now after c.in-Ok-Some.due
    (subst (λ o. Chooses c.in-Ok.at c.args.known.now after mid ready (Ok o)) c.in-Ok-Some.field-0-is c.in-Ok-Some.ensures.chooses)
    (state g.S.Store c.commit_step.new.conn) c.commit_step.result c.commit_step.ensures.commits at placed knows

pub returns-in-Ok-Some-clause-book : goal.returns-in-Ok-Some-clause-book
returns-in-Ok-Some-clause-book g c book knows =
    let mid = state g.S.Store c.place.new.conn in
    let ready = state g.S.Store c.next_due.new.conn in
    let after = c.next_due.new.known in
    book_commits (state g.S.Store c.args.conn.now) mid ready c.in-Ok.at c.in-Ok.ensures.tells c.next_due.ensures.unchanged c.args.known.now after c.in-Ok-Some.due
    (subst (λ o. Chooses c.in-Ok.at c.args.known.now after mid ready (Ok o)) c.in-Ok-Some.field-0-is c.in-Ok-Some.ensures.chooses)
    (state g.S.Store c.commit_step.new.conn) book knows c.commit_step.result c.commit_step.ensures.commits c.commit_step.ensures.crash

pub returns-in-Ok-Some-clause-knows : goal.returns-in-Ok-Some-clause-knows
returns-in-Ok-Some-clause-knows g c at book rests clean knows =
    let mid = state g.S.Store c.place.new.conn in
    let ready = state g.S.Store c.next_due.new.conn in
    let after = c.next_due.new.known in
    knows_behind (state g.S.Store c.args.conn.now) mid ready c.in-Ok.at c.in-Ok.ensures.tells c.next_due.ensures.unchanged c.args.known.now after c.in-Ok-Some.due
    (subst (λ o. Chooses c.in-Ok.at c.args.known.now after mid ready (Ok o)) c.in-Ok-Some.field-0-is c.in-Ok-Some.ensures.chooses)
    (state g.S.Store c.commit_step.new.conn) c.commit_step.result c.commit_step.ensures.commits at book rests clean knows

-- ── none was due ──

pub returns-in-Ok-None-clause-advances : goal.returns-in-Ok-None-clause-advances
returns-in-Ok-None-clause-advances g c =
    let mid = state g.S.Store c.place.new.conn in
    let ready = state g.S.Store c.next_due.new.conn in
    let after = c.next_due.new.known in
    stays (state g.S.Store c.args.conn.now) mid ready c.in-Ok.at c.in-Ok.ensures.tells c.next_due.ensures.unchanged c.args.known.now after
    (subst (λ o. Chooses c.in-Ok.at c.args.known.now after mid ready (Ok o)) c.in-Ok-None.field-0-is c.in-Ok-None.ensures.chooses)

pub returns-in-Ok-None-clause-follows : goal.returns-in-Ok-None-clause-follows
returns-in-Ok-None-clause-follows g c =
    let old = state g.S.Store c.args.conn.now in
    let mid = state g.S.Store c.place.new.conn in
    let ready = state g.S.Store c.next_due.new.conn in
    let nothing = c.next_due.ensures.unchanged in
    follows_on g.S.Store c.args.conn.now mid c.in-Ok.at c.in-Ok.ensures.tells c.in-Ok.ensures.read ready (Ok c.in-Ok.at) (λ clean. omega (arith, nothing.survives.clean)) (inl (nothing_then old mid ready c.in-Ok.ensures.tells.unchanged nothing))

pub returns-in-Ok-None-clause-rows : goal.returns-in-Ok-None-clause-rows
returns-in-Ok-None-clause-rows g c at placed knows =
    let mid = state g.S.Store c.place.new.conn in
    let ready = state g.S.Store c.next_due.new.conn in
    let after = c.next_due.new.known in
    rows_stay (state g.S.Store c.args.conn.now) mid ready c.in-Ok.at c.in-Ok.ensures.tells c.next_due.ensures.unchanged c.args.known.now after
    (subst (λ o. Chooses c.in-Ok.at c.args.known.now after mid ready (Ok o)) c.in-Ok-None.field-0-is c.in-Ok-None.ensures.chooses) at placed

pub returns-in-Ok-None-clause-keeps : goal.returns-in-Ok-None-clause-keeps
returns-in-Ok-None-clause-keeps g c at placed knows =
    let mid = state g.S.Store c.place.new.conn in
    let ready = state g.S.Store c.next_due.new.conn in
    let after = c.next_due.new.known in
    keeps_staying (state g.S.Store c.args.conn.now) mid ready c.in-Ok.at c.in-Ok.ensures.tells c.next_due.ensures.unchanged c.args.known.now after
    (subst (λ o. Chooses c.in-Ok.at c.args.known.now after mid ready (Ok o)) c.in-Ok-None.field-0-is c.in-Ok-None.ensures.chooses) at placed knows

pub returns-in-Ok-None-clause-book : goal.returns-in-Ok-None-clause-book
returns-in-Ok-None-clause-book g c book knows =
    let mid = state g.S.Store c.place.new.conn in
    let ready = state g.S.Store c.next_due.new.conn in
    let after = c.next_due.new.known in
    book_stays (state g.S.Store c.args.conn.now) mid ready c.in-Ok.at c.in-Ok.ensures.tells c.next_due.ensures.unchanged c.args.known.now after book knows
    (subst (λ o. Chooses c.in-Ok.at c.args.known.now after mid ready (Ok o)) c.in-Ok-None.field-0-is c.in-Ok-None.ensures.chooses)

pub returns-in-Ok-None-clause-knows : goal.returns-in-Ok-None-clause-knows
returns-in-Ok-None-clause-knows g c at book rests clean knows =
    let mid = state g.S.Store c.place.new.conn in
    let ready = state g.S.Store c.next_due.new.conn in
    let after = c.next_due.new.known in
    knows_then (state g.S.Store c.args.conn.now) mid ready c.in-Ok.at c.in-Ok.ensures.tells c.next_due.ensures.unchanged c.args.known.now after (Ok None)
    (subst (λ o. Chooses c.in-Ok.at c.args.known.now after mid ready (Ok o)) c.in-Ok-None.field-0-is c.in-Ok-None.ensures.chooses) at book rests clean knows

-- ── none was chosen ──

pub returns-in-Err-next_due-clause-advances : goal.returns-in-Err-next_due-clause-advances
returns-in-Err-next_due-clause-advances g c =
    let old = state g.S.Store c.args.conn.now in
    let ready = state g.S.Store c.next_due.new.conn in
    subst (λ f. Advances old ready (Err f)) (sym c.fault_of.ensures)
    (stops_second old (state g.S.Store c.place.new.conn) ready c.in-Ok.at c.in-Ok.ensures.tells c.next_due.ensures.unchanged c.args.known.now c.next_due.new.known c.in-Err-next_due.fault c.in-Err-next_due.ensures.chooses)

pub returns-in-Err-next_due-clause-follows : goal.returns-in-Err-next_due-clause-follows
returns-in-Err-next_due-clause-follows g c =
    let old = state g.S.Store c.args.conn.now in
    let mid = state g.S.Store c.place.new.conn in
    let ready = state g.S.Store c.next_due.new.conn in
    let nothing = c.next_due.ensures.unchanged in
    follows_on g.S.Store c.args.conn.now mid c.in-Ok.at c.in-Ok.ensures.tells c.in-Ok.ensures.read ready (Err c.fault_of.result) (λ clean. omega (arith, nothing.survives.clean)) (inl (nothing_then old mid ready c.in-Ok.ensures.tells.unchanged nothing))

pub returns-in-Err-next_due-clause-rows : goal.returns-in-Err-next_due-clause-rows
returns-in-Err-next_due-clause-rows g c at placed knows =
    let old = state g.S.Store c.args.conn.now in
    let ready = state g.S.Store c.next_due.new.conn in
    subst (λ f. AdvancesRows at old ready (Err f)) (sym c.fault_of.ensures)
    (rows_stop_second old (state g.S.Store c.place.new.conn) ready c.in-Ok.at c.in-Ok.ensures.tells c.next_due.ensures.unchanged c.args.known.now c.next_due.new.known c.in-Err-next_due.fault c.in-Err-next_due.ensures.chooses at placed)

pub returns-in-Err-next_due-clause-book : goal.returns-in-Err-next_due-clause-book
returns-in-Err-next_due-clause-book g c book knows =
    let old = state g.S.Store c.args.conn.now in
    let ready = state g.S.Store c.next_due.new.conn in
    subst (λ f. AdvancesBook book old ready (Err f)) (sym c.fault_of.ensures)
    (book_stops_second old (state g.S.Store c.place.new.conn) ready c.in-Ok.at c.in-Ok.ensures.tells c.next_due.ensures.unchanged c.args.known.now c.next_due.new.known book knows c.in-Err-next_due.fault c.in-Err-next_due.ensures.chooses)

pub returns-in-Err-next_due-clause-knows : goal.returns-in-Err-next_due-clause-knows
returns-in-Err-next_due-clause-knows g c at book rests clean knows =
    knows_then (state g.S.Store c.args.conn.now) (state g.S.Store c.place.new.conn) (state g.S.Store c.next_due.new.conn) c.in-Ok.at c.in-Ok.ensures.tells c.next_due.ensures.unchanged c.args.known.now c.next_due.new.known (Err c.in-Err-next_due.fault)
    c.in-Err-next_due.ensures.chooses at book rests clean knows
