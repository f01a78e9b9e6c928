use Rattle.std.proofs.Common.{arith}
use Rattle.std.proofs.Math.Logic.{∥∥₁_map}
use Rattle.sqlite.specs.Files.{file_state, over_files}
use Rattle.sqlite.specs.State.{HasCleanDisk}
use Rattle.mx_office.specs.Office.{office_state}
use Rattle.mx_promise.proofs.AgainLemmas.{opened_again, unopened_again}
use Rattle.mx_promise.proofs.again.open_again.Goals as goal

pub returns-in-Ok-open_office-clause-clean : goal.returns-in-Ok-open_office-clause-clean
returns-in-Ok-open_office-clause-clean g c clean =
    let early : HasCleanDisk (file_state c.in-Ok.found) = omega (arith, c.in-Ok-open_office.ensures.moves.clean) in
    c.in-Ok.ensures.clean early

pub returns-in-Ok-open_office-clause-found : goal.returns-in-Ok-open_office-clause-found
returns-in-Ok-open_office-clause-found g c clean =
    let was = file_state c.args.conn in
    let now = office_state c.in-Ok-open_office.again in
    let opened = c.in-Ok-open_office.ensures in
    let early : HasCleanDisk (file_state c.in-Ok.found) = omega (arith, opened.moves.clean) in
    ∥∥₁_map (c.in-Ok.ensures.found early) (λ it. opened_again was over_files c.in-Ok.found now clean it early opened.moves opened.changes)

pub returns-in-Err-open_office-clause-unopened : goal.returns-in-Err-open_office-clause-unopened
returns-in-Err-open_office-clause-unopened g c clean =
    let was = file_state c.args.conn in
    let now = file_state c.in-Err-open_office.left in
    let failed = c.in-Err-open_office.ensures in
    let early : HasCleanDisk (file_state c.in-Ok.found) = omega (arith, failed.moves.clean) in
    ∥∥₁_map (c.in-Ok.ensures.found early) (λ it. unopened_again was over_files c.in-Ok.found now clean it c.in-Err-open_office.fault (c.in-Ok.ensures.clean early) early failed.changes failed.moves (failed.reason clean))

pub returns-in-Err-open_office-clause-sure : goal.returns-in-Err-open_office-clause-sure
returns-in-Err-open_office-clause-sure g c clean =
    let early : HasCleanDisk (file_state c.in-Ok.found) = omega (arith, c.in-Err-open_office.ensures.moves.clean) in
    c.in-Ok.ensures.clean early

pub returns-in-Err-clause-unopened : goal.returns-in-Err-clause-unopened
returns-in-Err-clause-unopened g c = c.in-Err.ensures.left

pub returns-in-Err-clause-sure : goal.returns-in-Err-clause-sure
returns-in-Err-clause-sure g c faithful = (c.in-Err.ensures.left faithful).0
