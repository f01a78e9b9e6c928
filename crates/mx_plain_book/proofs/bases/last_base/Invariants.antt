use Rattle.std.proofs.Common.{◌≡◌, ◌+◌, length, IfSome}
use Rattle.mx_book.specs.due.Due.{IsBase}
use Rattle.mx_book.specs.Base.{base, base_from, accomplished_from}
use Rattle.mx_plain_book.proofs.bases.last_base.Given as goal

-- from the base so far, the entries that are left lead to the same as all do
abbrev pub invariant-loop-entry : goal.invariant-loop-entry
invariant-loop-entry l = record {
  left : base_from l.entries l.item l.id l.last (accomplished_from (l.number + 1) l.item l.id l.rest) ≡ base l.entries l.item l.id;
  count : l.number + length l.rest ≡ length l.entries;
  bounded : IfSome l.last IsBase;
}

abbrev pub decreases-loop-entry : goal.decreases-loop-entry
decreases-loop-entry l = length l.rest
