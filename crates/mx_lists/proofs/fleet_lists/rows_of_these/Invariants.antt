use Rattle.std.proofs.Common.{◌++◌, length}
use Rattle.std.specs.List.{flat_map}
use Rattle.mx_book.proofs.Gathering.{Gathers}
use Rattle.mx_lists.specs.Fleet.{rows_among, rows_of_one}
use Rattle.mx_lists.proofs.fleet_lists.rows_of_these.Given as goal

-- so far, and what is left, give the whole
abbrev pub invariant-loop-tail : goal.invariant-loop-tail
invariant-loop-tail g l =
    Gathers g.R.Records.reading l.initial.records l.records
    (λ book. l.rows.items ++ flat_map (rows_of_one (rows_among (g.A.OfEach.rows_of l.asked book) book l.defects)) l.rest)
    (λ book. flat_map (rows_of_one (rows_among (g.A.OfEach.rows_of l.asked book) book l.defects)) l.tails)

abbrev pub decreases-loop-tail : goal.decreases-loop-tail
decreases-loop-tail g l = length l.rest
