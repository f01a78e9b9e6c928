use Rattle.std.proofs.Common.{ap, ◌∙◌, ◌++◌}
use Rattle.mx_book.specs.commands.Programme.{task_shape}
use Rattle.mx_book.specs.Register.{found_of}
use Rattle.mx_book.proofs.Chaining.{first, then}
use Rattle.mx_book.proofs.Gathering.{goes_on}
use Rattle.mx_lists.proofs.InOrder.{all_left}
use Rattle.mx_lists.specs.DueList.{row_with, rows_with}
use Rattle.mx_lists.proofs.Gathering.{found_put}
use Rattle.mx_lists.proofs.due_lists.append_item.Goals as goal

pub loop-task-init : goal.loop-task-init
loop-task-init g c =
    let asked = then (first c.in_ok-found.ensures) c.in_ok-life.ensures in
    record {
      left = record {
        asked = asked.asked;
        clean = asked.clean;
        exact = λ start book stands before clean.
            let is = asked.so start book stands before clean in
            ap (λ found. c.args.rows.now.items ++ rows_with book c.args.day c.args.item.now found c.in_ok-life.life c.args.place.now c.args.tasks.now) is.0
            ∙ ap (λ life. c.args.rows.now.items ++ rows_with book c.args.day c.args.item.now (found_of book c.args.item.now) life c.args.place.now c.args.tasks.now) is.1;
      };
      shape = c.requires;
    }

pub loop-task-preserved : goal.loop-task-preserved
loop-task-preserved g c = record {
  left =
      goes_on c.loop-task.invariant.left c.in_ok-row.ensures (λ book is.
      found_put (row_with book c.args.day c.args.item.now c.in_ok-found.found c.in_ok-life.life c.args.place.now) c.loop-task.rest.now c.in-Some.later.now c.in-Some.task.now _ c.loop-task.rows.items _ _
      c.in-Some.ensures.cases.0 c.in_ok-push_found.ensures is);
  shape = (all_left task_shape c.loop-task.rest.now c.in-Some.later.now c.in-Some.task.now c.in-Some.ensures.cases.0 c.loop-task.invariant.shape).1;
}
