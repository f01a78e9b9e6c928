use Rattle.std.proofs.Common.{◌++◌, length}
use Rattle.std.specs.List.{filter_map}
use Rattle.mx_book.proofs.Gathering.{Gathers}
use Rattle.mx_lists.specs.Inventory.{component_with}
use Rattle.mx_lists.proofs.inventory.components_with_all.Given as goal

-- so far, and what is left, give the whole
abbrev pub invariant-loop-serial : goal.invariant-loop-serial
invariant-loop-serial g l =
    Gathers g.R.Records.reading l.initial.records l.records
    (λ book. l.rows.items ++ filter_map (component_with book) l.rest) (λ book. filter_map (component_with book) l.serials)

abbrev pub decreases-loop-serial : goal.decreases-loop-serial
decreases-loop-serial g l = length l.rest
