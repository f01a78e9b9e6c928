use Rattle.std.proofs.Common.{◌≡◌, ◌+◌, length}
use Rattle.mx_book.specs.Judge.{known_from}
use Rattle.mx_plain_book.proofs.register.known.Given as goal

-- what is left gives the answer, and its entries are numbered on
abbrev pub invariant-loop-entry : goal.invariant-loop-entry
invariant-loop-entry l = record {
  left : known_from l.command.doc l.seq l.rest ≡ known_from l.command.doc 1 l.entries;
  count : l.seq + length l.rest ≡ 1 + length l.entries;
}

abbrev pub decreases-loop-entry : goal.decreases-loop-entry
decreases-loop-entry l = length l.rest
