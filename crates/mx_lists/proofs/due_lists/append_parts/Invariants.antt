use Rattle.std.proofs.Common.{◌++◌, length}
use Rattle.std.specs.List.{flat_map}
use Rattle.mx_book.proofs.Gathering.{Gathers}
use Rattle.mx_lists.specs.DueList.{rows_of_part}
use Rattle.mx_lists.proofs.due_lists.append_parts.Given as goal

-- so far, and what is left, give the whole
abbrev pub invariant-loop-part : goal.invariant-loop-part
invariant-loop-part g l =
    Gathers g.R.Records.reading l.initial.records l.records
    (λ book. l.rows.items ++ flat_map (rows_of_part book l.day l.tasks) l.rest)
    (λ book. l.initial.rows.items ++ flat_map (rows_of_part book l.day l.tasks) l.parts)

abbrev pub decreases-loop-part : goal.decreases-loop-part
decreases-loop-part g l = length l.rest
