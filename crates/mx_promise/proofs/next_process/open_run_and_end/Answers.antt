use Rattle.mx_promise.proofs.OpenedLemmas.{kept_somewhere}
use Rattle.mx_promise.proofs.next_process.open_run_and_end.Goals as goal

pub returns-clause-ended : goal.returns-clause-ended
returns-clause-ended g c own at before file rests = record {
  conn = c.open_and_run-unopened.result.left;
  left = c.end_process.ensures;
  books = λ clean db may. kept_somewhere own before c.args.commands.now c.open_and_run-unopened.result.outcomes at file db (c.open_and_run-unopened.ensures.leaves own at before rests clean db may);
}

pub returns-clause-whole : goal.returns-clause-whole
returns-clause-whole g c own at before file rests sound = c.open_and_run-unopened.ensures.whole own at before file rests (c.end_process.ensures.clean sound)
