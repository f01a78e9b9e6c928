use Rattle.std.proofs.Common.{◌≡◌, [], length}
use Rattle.std.specs.List.{AllByRecursion}
use Rattle.mx_registers.specs.Left.{rest_of}
use Rattle.mx_indexed_book.specs.declared.moments.done.Accomplished.{Accomplished}
use Rattle.mx_indexed_book.specs.moments.Done.{IsSayable, accomplished}
use Rattle.mx_verify.specs.merged.Merging.{merging}
use Rattle.mx_verify.proofs.merged.merged.merged_book.Given as goal

-- the rows that are coming give, behind the book so far, what all the rows give; and this is what the entries so far accomplish
abbrev pub invariant-loop-entry : goal.invariant-loop-entry
invariant-loop-entry l =
    record {
      given : merging l.book l.coming (rest_of l.rows) ≡ merging [] l.entries (rest_of l.all);
      said : l.said.items ≡ accomplished l.book;
      sayable : AllByRecursion (λ (a : Accomplished). IsSayable a.said) l.said.items;
    }

abbrev pub decreases-loop-entry : goal.decreases-loop-entry
decreases-loop-entry l = length l.coming
