use Rattle.std.proofs.Common.{arith}
use Rattle.std.proofs.Math.Logic.{∥∥₁_map}
use Rattle.sqlite.specs.Files.{file_state, over_files}
use Rattle.sqlite.specs.State.{HasCleanDisk}
use Rattle.mx_database.specs.power.Left.{HoldsWhatIsLeftOf}
use Rattle.mx_database.proofs.PowerProofs.LeftLemmas.{faithful_left, holds_once_more, wider_left}
use Rattle.mx_office.specs.Office.{office_state}
use Rattle.mx_promise.proofs.AgainLemmas.{opened_again, unopened_again}
use Rattle.mx_promise.proofs.OpenedLemmas.{kept_behind, kept_unopened}
use Rattle.mx_promise.proofs.once_more.open_left.Goals as goal

pub returns-in-Ok-open_office-clause-headline : goal.returns-in-Ok-open_office-clause-headline
returns-in-Ok-open_office-clause-headline g c own before commands outcomes error kept opens clean =
    let was = kept.was in
    let holds : HoldsWhatIsLeftOf was c.args.left = holds_once_more (file_state was).may_leave c.args.left kept.still.stands opens in
    let again = c.in-Ok-open_office.again in
    let opened = c.in-Ok-open_office.ensures in
    let early : HasCleanDisk (file_state c.in-Ok.found) = omega (arith, opened.moves.clean) in
    ∥∥₁_map (c.in-Ok.ensures.found was holds early) (λ it.
    let one = opened_again (file_state was) over_files c.in-Ok.found (office_state again) clean it early opened.moves opened.changes in
    kept_behind own before commands outcomes (file_state was) again one (kept.books one.tables one.left))

pub returns-in-Err-open_office-clause-unopened : goal.returns-in-Err-open_office-clause-unopened
returns-in-Err-open_office-clause-unopened g c own before commands outcomes error kept opens clean =
    let was = kept.was in
    let holds : HoldsWhatIsLeftOf was c.args.left = holds_once_more (file_state was).may_leave c.args.left kept.still.stands opens in
    let now = file_state c.in-Err-open_office.left in
    let fault = c.in-Err-open_office.fault in
    let failed = c.in-Err-open_office.ensures in
    let early : HasCleanDisk (file_state c.in-Ok.found) = omega (arith, failed.moves.clean) in
    ∥∥₁_map (c.in-Ok.ensures.found was holds early) (λ it.
    let one = unopened_again (file_state was) over_files c.in-Ok.found now clean it fault kept.clean early failed.changes failed.moves (failed.reason clean) in
    kept_unopened own before commands outcomes (file_state was) fault now one (kept.books one.tables one.left))

pub returns-in-Err-clause-unopened : goal.returns-in-Err-clause-unopened
returns-in-Err-clause-unopened g c own before commands outcomes error kept opens faithful =
    let was = kept.was in
    let holds : HoldsWhatIsLeftOf was c.args.left = holds_once_more (file_state was).may_leave c.args.left kept.still.stands opens in
    ∣ record {
      was = was;
      clean = kept.clean;
      books = kept.books;
      still = wider_left _ _ (λ db may. ∣ may ∣₁) 0 _ (omega arith) _ _ (c.in-Err.ensures.left was holds (faithful_left faithful _));
    } ∣₁
