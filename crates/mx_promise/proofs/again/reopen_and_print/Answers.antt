use Rattle.std.proofs.Common.{arith}
use Rattle.std.proofs.Math.Logic.{∥∥₁_map}
use Rattle.sqlite.specs.Files.{file_state}
use Rattle.sqlite.specs.State.{HasCleanDisk}
use Rattle.mx_office.specs.Office.{office_state}
use Rattle.mx_promise.proofs.AgainLemmas.{printed_again}
use Rattle.mx_promise.proofs.again.reopen_and_print.Goals as goal

pub returns-in-Ok-clause-goes_on : goal.returns-in-Ok-clause-goes_on
returns-in-Ok-clause-goes_on g c = c.printed_from.ensures.goes_on c.in-Ok.ensures.ready

pub returns-in-Ok-clause-clean : goal.returns-in-Ok-clause-clean
returns-in-Ok-clause-clean g c clean =
    let nothing = c.printed_from.ensures.untouched c.in-Ok.ensures.ready in
    let early : HasCleanDisk (office_state c.in-Ok.office) = omega (arith, clean, nothing.survives.clean) in
    c.in-Ok.ensures.clean early

pub returns-in-Ok-clause-printed : goal.returns-in-Ok-clause-printed
returns-in-Ok-clause-printed g c clean =
    let ready = c.in-Ok.ensures.ready in
    let nothing = c.printed_from.ensures.untouched ready in
    let early : HasCleanDisk (office_state c.in-Ok.office) = omega (arith, clean, nothing.survives.clean) in
    ∥∥₁_map (c.in-Ok.ensures.found early) (λ it. printed_again (file_state c.args.conn) (office_state c.in-Ok.office) c.args.tail.now c.args.day c.printed_from.result it nothing
    (λ own settled book rests. c.printed_from.ensures.printed own settled book ready rests clean))
