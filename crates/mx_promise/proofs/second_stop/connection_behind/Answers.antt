use Rattle.std.proofs.Common.{inr, refl, subst, sym}
use Rattle.std.proofs.Math.Logic.{∥∥₁_map}
use Rattle.sqlite.specs.Files.{file_state}
use Rattle.sqlite.specs.State.{HasCleanDisk}
use Rattle.mx_office.specs.Layout.{office_point}
use Rattle.mx_promise.specs.Opened.{IsHandedClean, IsLeftStanding, RestsSomewhere}
use Rattle.mx_promise.proofs.OwnLemmas.{rests_here}
use Rattle.mx_promise.proofs.OpenedLemmas.{kept_left, leaves_standing, rests_found_somewhere, there_clean}
use Rattle.mx_promise.proofs.second_stop.connection_behind.Goals as goal

pub returns-in-Ok-clause-clean : goal.returns-in-Ok-clause-clean
returns-in-Ok-clause-clean g c clean = subst IsHandedClean (sym c.in-Ok.is) (subst (λ h. HasCleanDisk (file_state h)) c.close.ensures clean)

pub returns-in-Ok-clause-stands : goal.returns-in-Ok-clause-stands
returns-in-Ok-clause-stands g c own book left clean =
    let it = subst (IsLeftStanding own book) c.in-Ok.is left in
    ∣ subst (λ h. RestsSomewhere own book (file_state h)) (sym c.close.ensures) (office_point, inr refl, rests_here own it.0 _ book it.1) ∣₁

pub returns-in-Ok-reopen-clause-clean : goal.returns-in-Ok-reopen-clause-clean
returns-in-Ok-reopen-clause-clean g c clean = there_clean c.args.again _ c.in-Err-Office.conn _ c.in-Err-Office.is c.in-Err-Office.field-0-is (c.in-Ok-reopen.ensures.clean clean)

pub returns-in-Ok-reopen-clause-stands : goal.returns-in-Ok-reopen-clause-stands
returns-in-Ok-reopen-clause-stands g c own book left clean =
    let was = file_state c.in-Err-Office.conn in
    let leaves = leaves_standing c.args.again _ c.in-Err-Office.conn _ c.in-Err-Office.is c.in-Err-Office.field-0-is own book left in
    let sure = c.in-Ok-reopen.ensures.clean clean in
    ∥∥₁_map (c.in-Ok-reopen.ensures.found clean) (λ one. rests_found_somewhere own was (file_state c.in-Ok-reopen.found) book sure leaves one)

pub returns-in-Err-reopen-clause-unopened : goal.returns-in-Err-reopen-clause-unopened
returns-in-Err-reopen-clause-unopened g c own before commands outcomes keeps faithful =
    let conn = c.in-Err-Office.conn in
    let kept = kept_left c.args.again _ conn _ c.in-Err-Office.is c.in-Err-Office.field-0-is own before commands outcomes keeps in
    let it = c.in-Err-reopen.ensures.left faithful in
    ∥∥₁_map (kept it.0) (λ one. record {
      was = conn;
      clean = it.0;
      books = λ db may. (one.book, one.kept, one.tables.crash it.0 db may);
      still = it.1;
    })
