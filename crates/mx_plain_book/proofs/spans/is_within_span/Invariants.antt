use Rattle.std.proofs.Common.{◌≡◌, length}
use Rattle.std.specs.List.{list_any}
use Rattle.mx_book.specs.Span.{spans_of}
use Rattle.mx_book.specs.Life.{is_within}
use Rattle.mx_plain_book.proofs.spans.is_within_span.Given as goal

-- what is left gives the answer
abbrev pub invariant-loop-entry : goal.invariant-loop-entry
invariant-loop-entry l = list_any (is_within l.sector) (spans_of l.rest l.serial) ≡ list_any (is_within l.sector) (spans_of l.entries l.serial)

abbrev pub decreases-loop-entry : goal.decreases-loop-entry
decreases-loop-entry l = length l.rest
