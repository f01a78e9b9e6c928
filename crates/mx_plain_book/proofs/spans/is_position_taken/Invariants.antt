use Rattle.std.proofs.Common.{◌≡◌, length}
use Rattle.mx_book.specs.Span.{is_taken}
use Rattle.mx_plain_book.proofs.spans.is_position_taken.Given as goal

-- what is left gives the answer
abbrev pub invariant-loop-entry : goal.invariant-loop-entry
invariant-loop-entry l = is_taken l.rest l.tail l.position ≡ is_taken l.entries l.tail l.position

abbrev pub decreases-loop-entry : goal.decreases-loop-entry
decreases-loop-entry l = length l.rest
