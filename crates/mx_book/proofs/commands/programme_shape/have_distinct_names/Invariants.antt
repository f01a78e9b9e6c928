use Rattle.std.proofs.Common.{◌≡◌, length}
use Rattle.mx_book.specs.commands.Bounds.{are_distinct}
use Rattle.mx_book.specs.commands.Programme.{same_name_of_task}
use Rattle.mx_book.proofs.commands.programme_shape.have_distinct_names.Given as goal

-- what is left answers for all
abbrev pub invariant-loop-task : goal.invariant-loop-task
invariant-loop-task l = are_distinct same_name_of_task l.rest ≡ are_distinct same_name_of_task l.tasks

abbrev pub decreases-loop-task : goal.decreases-loop-task
decreases-loop-task l = length l.rest
