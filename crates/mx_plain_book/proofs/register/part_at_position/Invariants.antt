use Rattle.std.proofs.Common.{◌≡◌, length}
use Rattle.mx_book.specs.Register.{part_at}
use Rattle.mx_plain_book.proofs.register.part_at_position.Given as goal

-- what is left gives the answer
abbrev pub invariant-loop-entry : goal.invariant-loop-entry
invariant-loop-entry l = part_at l.rest l.tail l.position ≡ part_at l.entries l.tail l.position

abbrev pub decreases-loop-entry : goal.decreases-loop-entry
decreases-loop-entry l = length l.rest
