use Rattle.std.proofs.Common.{subst, sym}
use Rattle.sqlite.specs.Files.{file_state}
use Rattle.mx_promise.proofs.ReopenedLemmas.{HasRun, is_ended}
use Rattle.mx_promise.proofs.next_process.run_and_end.Goals as goal

pub returns-clause-ended : goal.returns-clause-ended
returns-clause-ended g c own settled before rests =
    let ran = c.run-outcomes.ensures in
    let outcomes = c.run-outcomes.result in
    let commands = c.args.commands.now in
    is_ended own settled before commands outcomes c.close.result c.end_process.result
    (subst (λ h. HasRun own before commands outcomes (file_state h)) (sym c.close.ensures) (ran.over_book own settled before rests)) c.end_process.ensures

pub returns-clause-ran : goal.returns-clause-ran
returns-clause-ran g c = (c.run-outcomes.new.self, c.run-outcomes.ensures)
