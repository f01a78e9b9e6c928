use Rattle.std.proofs.Common.{◌≡◌, length}
use Rattle.mx_book.specs.commands.Bounds.{are_distinct}
use Rattle.mx_book.specs.commands.Shape.{same_name}
use Rattle.mx_book.proofs.commands.shape.have_distinct_names.Given as goal

-- what is left answers for all
abbrev pub invariant-loop-position : goal.invariant-loop-position
invariant-loop-position l = are_distinct same_name l.rest ≡ are_distinct same_name l.positions

abbrev pub decreases-loop-position : goal.decreases-loop-position
decreases-loop-position l = length l.rest
