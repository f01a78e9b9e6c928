use Rattle.std.proofs.Common.{IfErr, IfOk, subst, sym}
use Rattle.sqlite.specs.Files.{file_state}
use Rattle.sqlite.specs.State.{HasCleanDisk}
use Rattle.mx_layout.specs.Crash.{Leaves}
use Rattle.mx_database.specs.power.Found.{Finds}
use Rattle.mx_office.specs.Office.{office_state}
use Rattle.mx_promise.specs.Reopened.{FindsUnopened, SaysHere}
use Rattle.mx_promise.proofs.AgainLemmas.{finds, finds_unopened}
use Rattle.mx_promise.proofs.again.reopen_office.Goals as goal

pub returns-clause-clean : goal.returns-clause-clean
returns-clause-clean g c = subst (λ h. IfOk c.open_again.result (λ again. HasCleanDisk (office_state again) → HasCleanDisk (file_state h))) c.close.ensures c.open_again.ensures.clean

pub returns-clause-found : goal.returns-clause-found
returns-clause-found g c says =
    let here = subst (λ h. Leaves (file_state h) SaysHere) (sym c.close.ensures) says in
    subst (λ h. IfOk c.open_again.result (λ again. Finds (file_state h).may_leave (office_state again))) c.close.ensures (finds (file_state c.close.result) here c.open_again.result c.open_again.ensures.clean c.open_again.ensures.found)

pub returns-clause-unopened : goal.returns-clause-unopened
returns-clause-unopened g c says =
    let here = subst (λ h. Leaves (file_state h) SaysHere) (sym c.close.ensures) says in
    subst (λ h. IfErr c.open_again.result (FindsUnopened (file_state h))) c.close.ensures (finds_unopened (file_state c.close.result) here c.open_again.result c.open_again.ensures.unopened)
