use Rattle.std.proofs.Common.{◌++◌, map, length}
use Rattle.mx_book.proofs.Gathering.{Gathers}
use Rattle.mx_lists.specs.Fleet.{deferred_row}
use Rattle.mx_lists.specs.Memory.{with_memory}
use Rattle.mx_lists.proofs.fleet_lists.rows_deferred.Given as goal

-- so far, and what is left, give the whole
abbrev pub invariant-loop-defect : goal.invariant-loop-defect
invariant-loop-defect g l =
    Gathers (with_memory g.R.Records.reading) l.initial.records l.records
    (λ book. l.rows.items ++ map (deferred_row book l.day) l.rest) (λ book. map (deferred_row book l.day) l.defects)

abbrev pub decreases-loop-defect : goal.decreases-loop-defect
decreases-loop-defect g l = length l.rest
