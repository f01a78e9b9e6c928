use Rattle.std.proofs.Common.{◌≡◌, ◌+◌, drop}
use Rattle.serde_json.specs.View.{items_view}
use Rattle.mx_intake.specs.Entries.{entries_from}
use Rattle.mx_intake.specs.Sequence.{after}
use Rattle.mx_intake.proofs.json.commands_of_values.Given as goal

abbrev pub invariant-loop-i : goal.invariant-loop-i
invariant-loop-i l =
    entries_from 1 (items_view l.values) ≡ after l.commands.items (entries_from (l.i + 1) (items_view (drop l.i l.values)))
