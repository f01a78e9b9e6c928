use Rattle.std.proofs.Common.{◌≡◌, max, length}
use Rattle.mx_book.specs.Life.{latest, removals_from}
use Rattle.mx_plain_book.proofs.spans.latest_removal.Given as goal

-- so far, and what is left, give the latest of all
abbrev pub invariant-loop-entry : goal.invariant-loop-entry
invariant-loop-entry l = max l.latest (latest (removals_from l.rest l.tail)) ≡ latest (removals_from l.entries l.tail)

abbrev pub decreases-loop-entry : goal.decreases-loop-entry
decreases-loop-entry l = length l.rest
