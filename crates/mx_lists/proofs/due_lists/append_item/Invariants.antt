use Rattle.std.proofs.Common.{◌≡◌, ◌++◌, true, length}
use Rattle.std.specs.List.{list_all}
use Rattle.mx_book.specs.commands.Programme.{task_shape}
use Rattle.mx_book.proofs.Gathering.{Gathers}
use Rattle.mx_lists.specs.DueList.{rows_of_item, rows_with}
use Rattle.mx_lists.specs.Memory.{with_memory}
use Rattle.mx_lists.proofs.due_lists.append_item.Given as goal

-- so far, and what is left, give the whole
abbrev pub invariant-loop-task : goal.invariant-loop-task
invariant-loop-task g l = record {
  left :
      Gathers (with_memory g.R.Records.reading) l.fn.records l.records
      (λ book. l.rows.items ++ rows_with book l.day l.item l.found l.life l.place l.rest)
      (λ book. l.fn.rows.items ++ rows_of_item book l.day l.tasks l.item l.place);
  shape : list_all task_shape l.rest ≡ true;
}

abbrev pub decreases-loop-task : goal.decreases-loop-task
decreases-loop-task g l = length l.rest
