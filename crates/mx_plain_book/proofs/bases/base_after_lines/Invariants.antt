use Rattle.std.proofs.Common.{◌≡◌, length, IfSome}
use Rattle.mx_book.specs.commands.Act.{Released}
use Rattle.mx_book.specs.due.Due.{IsBase}
use Rattle.mx_book.specs.Base.{base_from, accomplished_by}
use Rattle.mx_plain_book.proofs.bases.base_after_lines.Given as goal

-- from the base so far, the lines that are left lead to the same as all do
abbrev pub invariant-loop-line : goal.invariant-loop-line
invariant-loop-line l = record {
  left :
      base_from l.entries l.item l.id l.last (accomplished_by l.number l.item l.id (Released l.release l.rest))
      ≡ base_from l.entries l.item l.id l.initial.last (accomplished_by l.number l.item l.id (Released l.release l.lines));
  bounded : IfSome l.last IsBase;
}

abbrev pub decreases-loop-line : goal.decreases-loop-line
decreases-loop-line l = length l.rest
