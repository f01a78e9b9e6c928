use Rattle.std.proofs.Common.{◌≡◌, length}
use Rattle.mx_book.specs.Span.{fitted}
use Rattle.mx_plain_book.proofs.spans.place_of.Given as goal

-- what is left gives the answer
abbrev pub invariant-loop-entry : goal.invariant-loop-entry
invariant-loop-entry l = fitted l.rest l.serial ≡ fitted l.entries l.serial

abbrev pub decreases-loop-entry : goal.decreases-loop-entry
decreases-loop-entry l = length l.rest
