use Rattle.std.proofs.Common.{◌≡◌, length}
use Rattle.mx_book.specs.commands.Bounds.{are_distinct}
use Rattle.mx_book.specs.commands.Same.{same_line}
use Rattle.mx_book.proofs.judging.judging_releases.have_line_twice.Given as goal

-- what is left answers for all
abbrev pub invariant-loop-line : goal.invariant-loop-line
invariant-loop-line l = are_distinct same_line l.rest ≡ are_distinct same_line l.lines

abbrev pub decreases-loop-line : goal.decreases-loop-line
decreases-loop-line l = length l.rest
