use Rattle.sqlite.specs.Files.{file_state}
use Rattle.mx_promise.proofs.OpenedLemmas.{reopens_twice_somewhere}
use Rattle.mx_promise.proofs.OwnLemmas.{settled_of}
use Rattle.mx_promise.proofs.second_stop.open_run_and_reopen_twice.Goals as goal

pub returns-in-Ok : goal.returns-in-Ok
returns-in-Ok g c = record {
  headline = λ own at before file rests.
      let first = c.open_run_and_reopen-unopened in
      let second = c.open_run_and_reopen-second in
      reopens_twice_somewhere own (settled_of own at rests.schema rests.is) before c.args.commands.now c.args.more.now c.args.tail.now c.args.day first.result.outcomes first.result.again (file_state c.in-Ok.found) second.result.outcomes second.result.again
      (first.ensures.headline own at before rests) (first.ensures.unopened own at before file rests) c.in-Ok.ensures.clean (c.in-Ok.ensures.stands own) second.ensures.clean (second.ensures.headline own);
  unopened = λ own at before file rests. tt;
  told = c.open_run_and_reopen-unopened.ensures.told;
  done = c.open_run_and_reopen-second.ensures.told.done;
}

pub returns-in-Err-clause-unopened : goal.returns-in-Err-clause-unopened
returns-in-Err-clause-unopened g c own at before file rests =
    let first = c.open_run_and_reopen-unopened in
    c.in-Err.ensures.unopened own before c.args.commands.now first.result.outcomes (first.ensures.unopened own at before file rests)
