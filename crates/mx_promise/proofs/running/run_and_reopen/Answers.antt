use Rattle.std.proofs.Common.{arith, subst, sym}
use Rattle.sqlite.specs.Files.{file_state}
use Rattle.sqlite.specs.State.{HasCleanDisk}
use Rattle.mx_office.specs.Layout.{office_point}
use Rattle.mx_promise.proofs.AgainLemmas.{if_opened_then}
use Rattle.mx_promise.proofs.OpenedLemmas.{left_by_run, reopens}
use Rattle.mx_promise.proofs.ReopenedLemmas.{HasRun, keeps_unopened}
use Rattle.mx_promise.proofs.running.run_and_reopen.Goals as goal

pub returns-clause-headline : goal.returns-clause-headline
returns-clause-headline g c own settled before rests =
    let commands = c.args.commands.now in
    let outcomes = c.run-outcomes.result in
    let end = file_state c.close.result in
    let again = c.reopen_and_print-again in
    let run = subst (λ h. HasRun own before commands outcomes (file_state h)) (sym c.close.ensures) (c.run-outcomes.ensures.over_book own settled before rests) in
    reopens own before commands outcomes office_point end (left_by_run own settled office_point before commands outcomes end run) c.args.tail.now c.args.day again.result again.ensures.clean again.ensures.printed

pub returns-clause-unopened : goal.returns-clause-unopened
returns-clause-unopened g c own settled before rests =
    let commands = c.args.commands.now in
    let outcomes = c.run-outcomes.result in
    let again = c.reopen_and_print-again in
    let run = subst (λ h. HasRun own before commands outcomes (file_state h)) (sym c.close.ensures) (c.run-outcomes.ensures.over_book own settled before rests) in
    keeps_unopened own settled before commands outcomes c.close.result run again.result again.ensures.unopened

pub returns-clause-ran : goal.returns-clause-ran
returns-clause-ran g c = (c.run-outcomes.new.self, c.run-outcomes.ensures)

pub returns-clause-clean : goal.returns-clause-clean
returns-clause-clean g c = if_opened_then c.reopen_and_print-again.result c.reopen_and_print-again.ensures.clean (λ it sure clean.
    let end = subst (λ h. HasCleanDisk (file_state h)) c.close.ensures (sure clean) in
    omega (arith, end, c.run-outcomes.ensures.doubt.clean))
