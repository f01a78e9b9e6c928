use Rattle.std.proofs.Common.{◌≡◌, Some, true, length, IfSome}
use Rattle.std.specs.Prelude.{fold}
use Rattle.std.specs.List.{list_all}
use Rattle.std.specs.Option.{option_copied}
use Rattle.mx_book.specs.commands.Programme.{task_shape}
use Rattle.mx_book.specs.Register.{register}
use Rattle.mx_book.specs.Programme.{tasks_loaded, tasks_in_force}
use Rattle.mx_plain_book.proofs.programmes.programme_in_force.Given as goal

-- the last so far, or what is left, gives the last of all
abbrev pub invariant-loop-entry : goal.invariant-loop-entry
invariant-loop-entry l = record {
  left : fold (λ before x. Some x) (option_copied l.found) (register (tasks_loaded l.kind) l.rest) ≡ tasks_in_force l.entries l.kind;
  shape : IfSome (option_copied l.found) (λ tasks. list_all task_shape tasks ≡ true);
}

abbrev pub decreases-loop-entry : goal.decreases-loop-entry
decreases-loop-entry l = length l.rest
