use Rattle.std.proofs.Common.{arith, ap, refl, subst, sym, ◌≡◌, [], None, length}
use Rattle.sqlite.specs.Held.{state}
use Rattle.sqlite.specs.State.{HasCleanDisk}
use Rattle.mx_office.specs.Office.{office_state}
use Rattle.mx_office.specs.declared.fault.Outcomes.{Outcomes}
use Rattle.mx_promise.specs.Reopened.{IsStopOf}
use Rattle.mx_promise.proofs.OpenedLemmas.{left_by_run, left_unrun}
use Rattle.mx_promise.proofs.OwnLemmas.{kept_on, settled_of, whole_on}
use Rattle.mx_promise.proofs.ReopenedLemmas.{HasRun}
use Rattle.mx_promise.proofs.opening.open_and_run.Goals as goal

-- ── an office was opened and run ──

pub returns-in-Ok-clause-leaves : goal.returns-in-Ok-clause-leaves
returns-in-Ok-clause-leaves g c own at before rests =
    let commands = c.args.commands.now in
    let outcomes = c.run-outcomes.result in
    let settled = settled_of own at rests.schema rests.is in
    let opened = kept_on g.S.Store c.args.conn (office_state c.in-Ok.office) own at before rests c.in-Ok.ensures.changes None c.in-Ok.ensures.moves refl in
    let run = subst (λ h. HasRun own before commands outcomes (state g.S.Store h)) (sym c.close.ensures) (c.run-outcomes.ensures.over_book own settled before opened) in
    left_by_run own settled at before commands outcomes (state g.S.Store c.close.result) run

pub returns-in-Ok-clause-whole : goal.returns-in-Ok-clause-whole
returns-in-Ok-clause-whole g c own at before file rests clean fault is = absurd cc

pub returns-in-Ok-clause-told : goal.returns-in-Ok-clause-told
returns-in-Ok-clause-told g c =
    let run = c.run-outcomes.ensures in
    record {
      ran = λ _. record { office = c.in-Ok.office; after = c.run-outcomes.new.self; moves = c.in-Ok.ensures.moves; ready = c.in-Ok.ensures.ready; run = run };
      unrun = λ some. absurd (some refl);
      unstopped = λ some. absurd (some refl);
      usable = run.doubt.usable c.in-Ok.ensures.ready;
      counted = run.counted;
      done = λ _. run.done;
    }

pub returns-in-Ok-clause-clean : goal.returns-in-Ok-clause-clean
returns-in-Ok-clause-clean g c clean =
    let end = subst (λ h. HasCleanDisk (state g.S.Store h)) c.close.ensures clean in
    omega (arith, end, c.run-outcomes.ensures.doubt.clean, c.in-Ok.ensures.moves.clean)

-- ── none was ──

pub returns-in-Err-clause-leaves : goal.returns-in-Err-clause-leaves
returns-in-Err-clause-leaves g c own at before rests =
    let none : c.new.result.items ≡ [] = cc in
    let outcomes : Outcomes = record { replies = c.new.result; stopped = None } in
    left_unrun g.S.Store c.args.conn (state g.S.Store c.in-Err.left) own at before c.args.commands.now outcomes c.in-Err.fault none refl rests c.in-Err.ensures.changes c.in-Err.ensures.moves

pub returns-in-Err-clause-whole : goal.returns-in-Err-clause-whole
returns-in-Err-clause-whole g c own at before file rests clean fault is =
    let early : HasCleanDisk (state g.S.Store c.args.conn) = omega (arith, c.in-Err.ensures.moves.clean) in
    let stop = whole_on (state g.S.Store c.args.conn) own at before c.in-Err.fault early (c.in-Err.ensures.reason clean) file rests in
    let same : c.in-Err.fault ≡ fault = cc in
    subst IsStopOf same stop

pub returns-in-Err-clause-told : goal.returns-in-Err-clause-told
returns-in-Err-clause-told g c =
    let none : c.new.result.items ≡ [] = cc in
    record {
      ran = λ is. absurd cc;
      unrun = λ _. none;
      unstopped = λ _. refl;
      usable = λ is. cc;
      counted = omega (arith, ap length none);
      done = λ is. absurd cc;
    }

pub returns-in-Err-clause-clean : goal.returns-in-Err-clause-clean
returns-in-Err-clause-clean g c clean = omega (arith, c.in-Err.ensures.moves.clean)
