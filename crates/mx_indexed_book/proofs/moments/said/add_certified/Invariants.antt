use Rattle.std.proofs.Common.{◌≡◌, ◌++◌, ◌+◌, length}
use Rattle.std.specs.List.{AllByRecursion}
use Rattle.mx_indexed_book.specs.declared.moments.done.Accomplished.{Accomplished}
use Rattle.mx_indexed_book.specs.moments.Done.{IsSayable, certified}
use Rattle.mx_indexed_book.proofs.moments.said.add_certified.Given as goal

-- what is said so far and what the lines that are left certify is all, and the next line has this number
abbrev pub invariant-loop-line : goal.invariant-loop-line
invariant-loop-line l =
    record {
      all : l.said.items ++ certified l.book l.release l.number l.rest ≡ l.initial.said.items ++ certified l.book l.release 1 l.lines;
      number : l.number + length l.rest ≡ length l.lines + 1;
      sayable : AllByRecursion (λ (a : Accomplished). IsSayable a.said) l.initial.said.items → AllByRecursion (λ (a : Accomplished). IsSayable a.said) l.said.items;
    }

abbrev pub decreases-loop-line : goal.decreases-loop-line
decreases-loop-line l = length l.rest
