use Rattle.std.proofs.Common.{◌++◌, length}
use Rattle.std.specs.List.{filter_map}
use Rattle.mx_book.proofs.Gathering.{Gathers}
use Rattle.mx_lists.specs.Fitted.{part_of_place}
use Rattle.mx_lists.proofs.life_list.parts_in_places.Given as goal

-- so far, and what is left, give the whole
abbrev pub invariant-loop-place : goal.invariant-loop-place
invariant-loop-place g l =
    Gathers g.R.Records.reading l.initial.records l.records
    (λ book. l.parts.items ++ filter_map (part_of_place book) l.rest) (λ book. filter_map (part_of_place book) l.places)

abbrev pub decreases-loop-place : goal.decreases-loop-place
decreases-loop-place g l = length l.rest
