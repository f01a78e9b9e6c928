use Rattle.std.proofs.Common.{◌≡◌, ◌++◌, length}
use Rattle.mx_lists.specs.Fitted.{fitted_on}
use Rattle.mx_plain_book.proofs.fitted.places_fitted.Given as goal

-- so far, and what is left, give the whole
abbrev pub invariant-loop-entry : goal.invariant-loop-entry
invariant-loop-entry l = l.places.items ++ fitted_on l.tail l.rest ≡ fitted_on l.tail l.entries

abbrev pub decreases-loop-entry : goal.decreases-loop-entry
decreases-loop-entry l = length l.rest
