use Rattle.sqlite.specs.Files.{file_state}
use Rattle.mx_promise.proofs.AgainLemmas.{if_opened_then}
use Rattle.mx_promise.proofs.OpenedLemmas.{keeps_somewhere, reopens, seen_clean}
use Rattle.mx_promise.proofs.opening.open_run_and_reopen.Goals as goal

pub returns-clause-headline : goal.returns-clause-headline
returns-clause-headline g c own at before rests =
    let first = c.open_and_run-unopened in
    let again = c.reopen_and_print-again in
    reopens own before c.args.commands.now first.result.outcomes at (file_state first.result.left) (first.ensures.leaves own at before rests) c.args.tail.now c.args.day again.result again.ensures.clean again.ensures.printed

pub returns-clause-unopened : goal.returns-clause-unopened
returns-clause-unopened g c own at before file rests =
    let first = c.open_and_run-unopened in
    let again = c.reopen_and_print-again in
    keeps_somewhere own before c.args.commands.now first.result.outcomes at file first.result.left (first.ensures.leaves own at before rests) again.result again.ensures.unopened

pub returns-clause-whole : goal.returns-clause-whole
returns-clause-whole g c own at before file rests there =
    let again = c.reopen_and_print-again in
    c.open_and_run-unopened.ensures.whole own at before file rests (seen_clean (file_state c.open_and_run-unopened.result.left) again.result again.ensures.clean again.ensures.sure there)

pub returns-clause-clean : goal.returns-clause-clean
returns-clause-clean g c = if_opened_then c.reopen_and_print-again.result c.reopen_and_print-again.ensures.clean (λ it sure clean. c.open_and_run-unopened.ensures.clean (sure clean))
