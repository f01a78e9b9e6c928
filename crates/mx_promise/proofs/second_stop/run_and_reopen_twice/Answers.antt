use Rattle.std.proofs.lemmas.Result.{IfErr-at_err, IfOk-at_ok}
use Rattle.mx_promise.proofs.ReopenedLemmas.{reopens_twice}
use Rattle.mx_promise.specs.Reopened.{KeepsUnopened, Reopens}
use Rattle.mx_promise.proofs.second_stop.run_and_reopen_twice.Goals as goal

pub returns-in-Ok : goal.returns-in-Ok
returns-in-Ok g c = record {
  headline = λ own settled before rests.
      let commands = c.args.commands.now in
      let tail = c.args.tail.now in
      let day = c.args.day in
      let first = c.run_and_reopen-first.result.outcomes in
      let second = c.run_and_reopen-second in
      reopens_twice own before commands c.args.more.now tail day first second.result.outcomes _ second.result.again
      (IfOk-at_ok (Reopens own before commands tail day first) c.in-Ok.is (c.run_and_reopen-first.ensures.headline own settled before rests)) (second.ensures.headline own settled) second.ensures.clean;
  unopened = λ own settled before rests. tt;
  ran = c.run_and_reopen-first.ensures.ran;
  done = c.run_and_reopen-second.ensures.ran.1.done;
}

pub returns-in-Err-clause-unopened : goal.returns-in-Err-clause-unopened
returns-in-Err-clause-unopened g c own settled before rests = IfErr-at_err (KeepsUnopened own before c.args.commands.now c.run_and_reopen-first.result.outcomes) c.in-Err.is (c.run_and_reopen-first.ensures.unopened own settled before rests)

pub returns-in-Err-clause-ran : goal.returns-in-Err-clause-ran
returns-in-Err-clause-ran g c = c.run_and_reopen-first.ensures.ran
