use Rattle.std.proofs.Common.{◌≡◌, ◌+◌, drop}
use Rattle.toml.specs.View.{items_view}
use Rattle.mx_intake.specs.ProgrammeText.{tasks_from}
use Rattle.mx_intake.specs.Sequence.{after}
use Rattle.mx_intake.proofs.programme.tasks_of_values.Given as goal

abbrev pub invariant-loop-i : goal.invariant-loop-i
invariant-loop-i l =
    tasks_from 1 (items_view l.values) ≡ after l.tasks.items (tasks_from (l.i + 1) (items_view (drop l.i l.values)))
