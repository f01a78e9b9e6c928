use Rattle.std.proofs.Common.{◌++◌, length}
use Rattle.std.specs.List.{filter_map}
use Rattle.mx_book.proofs.Gathering.{Gathers}
use Rattle.mx_lists.specs.Inventory.{aircraft_with}
use Rattle.mx_lists.proofs.inventory.aircraft_with_all.Given as goal

-- so far, and what is left, give the whole
abbrev pub invariant-loop-tail : goal.invariant-loop-tail
invariant-loop-tail g l =
    Gathers g.R.Records.reading l.initial.records l.records
    (λ book. l.rows.items ++ filter_map (aircraft_with book) l.rest) (λ book. filter_map (aircraft_with book) l.tails)

abbrev pub decreases-loop-tail : goal.decreases-loop-tail
decreases-loop-tail g l = length l.rest
