use Rattle.std.proofs.Common.{arith, sym, subst}
use Rattle.std.proofs.Math.Logic.{∥∥₁_map}
use Rattle.sqlite.specs.State.{HasCleanDisk}
use Rattle.sqlite.specs.Files.{file_state, over_files}
use Rattle.mx_office.specs.Layout.{office_point}
use Rattle.mx_office.specs.Office.{office_state}
use Rattle.mx_promise.proofs.AgainLemmas.{opened_again, printed_again, unopened_again}
use Rattle.mx_promise.proofs.OpenedLemmas.{ended_somewhere, kept_anywhere, kept_unopened, reopened, unopened_either}
use Rattle.mx_promise.proofs.ReopenedLemmas.{is_kept_unopened}
use Rattle.mx_database.proofs.PowerProofs.LeftLemmas.{some_by, wider_left}
use Rattle.mx_promise.specs.Ended.{NextKeepsSomewhere, NextKeepsUnopened}
use Rattle.mx_promise.proofs.next_process.reopen_after.Goals as goal

pub returns-in-Ok-open_office-clause-moved : goal.returns-in-Ok-open_office-clause-moved
returns-in-Ok-open_office-clause-moved g c own before commands left was clean =
    let end = file_state left.conn in
    let ended = c.args.ended in
    let opened = c.in-Ok-open_office.ensures in
    let nothing = c.printed_from.ensures.untouched opened.ready in
    let then : HasCleanDisk (office_state c.in-Ok-open_office.office) = omega (arith, clean, nothing.survives.clean) in
    let early : HasCleanDisk (file_state c.in-Ok.conn) = omega (arith, then, opened.moves.clean) in
    ∥∥₁_map (c.in-Ok.ensures.found left.conn left.left was early) (λ found.
    let it = opened_again end over_files c.in-Ok.conn (office_state c.in-Ok-open_office.office) then found early opened.moves opened.changes in
    let one = printed_again end (office_state c.in-Ok-open_office.office) c.args.tail.now c.args.day c.printed_from.result it nothing (λ own settled book rests. c.printed_from.ensures.printed own settled book opened.ready rests clean) in
    let kept = left.books (left.left.clean was.clean) one.tables one.left in
    reopened own before commands ended.outcomes office_point end c.args.tail.now c.args.day c.printed_from.result one (kept_anywhere own before commands ended.outcomes office_point one.tables kept))

pub returns-in-Ok-open_office-clause-headline : goal.returns-in-Ok-open_office-clause-headline
returns-in-Ok-open_office-clause-headline g c own before commands left = returns-in-Ok-open_office-clause-moved g c own before commands (ended_somewhere own before commands c.args.ended left)

pub returns-in-Ok-open_office-clause-goes_on : goal.returns-in-Ok-open_office-clause-goes_on
returns-in-Ok-open_office-clause-goes_on g c = c.printed_from.ensures.goes_on c.in-Ok-open_office.ensures.ready

pub returns-in-Err-open_office-clause-unopened : goal.returns-in-Err-open_office-clause-unopened
returns-in-Err-open_office-clause-unopened g c own before commands left was clean =
    let end = file_state left.conn in
    let now = file_state c.in-Err-open_office.conn in
    let fault = c.in-Err-open_office.fault in
    let failed = c.in-Err-open_office.ensures in
    let early : HasCleanDisk (file_state c.in-Ok.conn) = omega (arith, failed.moves.clean) in
    let sure = left.left.clean was.clean in
    ∥∥₁_map (c.in-Ok.ensures.found left.conn left.left was early) (λ found.
    let one = unopened_again end over_files c.in-Ok.conn now clean found fault sure early failed.changes failed.moves (failed.reason clean) in
    let kept = left.books sure one.tables one.left in
    is_kept_unopened own left.settled before commands c.args.ended.outcomes end now fault one kept.0 kept.1 kept.2)

pub returns-in-Err-open_office-clause-unmoved : goal.returns-in-Err-open_office-clause-unmoved
returns-in-Err-open_office-clause-unmoved g c own before commands left was clean =
    let end = file_state left.conn in
    let now = file_state c.in-Err-open_office.conn in
    let fault = c.in-Err-open_office.fault in
    let failed = c.in-Err-open_office.ensures in
    let early : HasCleanDisk (file_state c.in-Ok.conn) = omega (arith, failed.moves.clean) in
    let sure = left.left.clean was.clean in
    ∥∥₁_map (c.in-Ok.ensures.found left.conn left.left was early) (λ found.
    let one = unopened_again end over_files c.in-Ok.conn now clean found fault sure early failed.changes failed.moves (failed.reason clean) in
    kept_unopened own before commands c.args.ended.outcomes end fault now one (left.books sure one.tables one.left))

pub returns-in-Err-clause-unopened : goal.returns-in-Err-clause-unopened
returns-in-Err-clause-unopened g c own before commands left was =
    let kept = NextKeepsUnopened own before commands c.args.ended.outcomes in
    let sure = left.left.clean was.clean in
    let told = some_by c.in-Err.left (c.in-Err.ensures.left left.conn left.left was) (λ rest is clean.
    wider_left (file_state left.conn).may_leave _ (λ db may. (let one = left.books sure db may in ∣ (one.0, one.1, one.2) ∣₁)) 0 0 (omega arith) _ rest (is clean)) in
    subst kept (sym c.unopened_by.ensures) (unopened_either kept c.in-Err.error c.in-Err.left c.in-Err.ensures.unopened told)

pub returns-in-Err-clause-unmoved : goal.returns-in-Err-clause-unmoved
returns-in-Err-clause-unmoved g c own before commands left was =
    let kept = NextKeepsSomewhere own before commands c.args.ended.outcomes in
    let sure = left.left.clean was.clean in
    let told = some_by c.in-Err.left (c.in-Err.ensures.left left.conn left.left was) (λ rest is clean.
    wider_left (file_state left.conn).may_leave _ (λ db may. (let one = left.books sure db may in ∣ (one.0, one.1, one.2) ∣₁)) 0 0 (omega arith) _ rest (is clean)) in
    subst kept (sym c.unopened_by.ensures) (unopened_either kept c.in-Err.error c.in-Err.left c.in-Err.ensures.unopened told)
