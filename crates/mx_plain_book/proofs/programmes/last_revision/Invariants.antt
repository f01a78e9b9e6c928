use Rattle.std.proofs.Common.{◌≡◌, ◌≤◌, Some, length, IfSome}
use Rattle.std.specs.Prelude.{fold}
use Rattle.mx_book.specs.declared.commands.programme_shape.TheConstants.{LAST_REVISION}
use Rattle.mx_book.specs.Register.{register}
use Rattle.mx_book.specs.Programme.{revision_loaded, revision_in_force}
use Rattle.mx_plain_book.proofs.programmes.last_revision.Given as goal

-- the last so far, or what is left, gives the last of all
abbrev pub invariant-loop-entry : goal.invariant-loop-entry
invariant-loop-entry l = record {
  left : fold (λ before x. Some x) l.found (register (revision_loaded l.kind) l.rest) ≡ revision_in_force l.entries l.kind;
  bounded : IfSome l.found (λ n. n ≤ LAST_REVISION);
}

abbrev pub decreases-loop-entry : goal.decreases-loop-entry
decreases-loop-entry l = length l.rest
