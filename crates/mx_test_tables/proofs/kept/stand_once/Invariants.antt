use Rattle.std.proofs.Common.{◌≡◌, length}
use Rattle.std.specs.Prelude.{nat_eq}
use Rattle.mx_book.specs.commands.Bounds.{are_distinct}
use Rattle.mx_test_tables.proofs.kept.stand_once.Given as goal

-- what is left answers for all
abbrev pub invariant-loop-number : goal.invariant-loop-number
invariant-loop-number l = are_distinct nat_eq l.rest ≡ are_distinct nat_eq l.numbers

abbrev pub decreases-loop-number : goal.decreases-loop-number
decreases-loop-number l = length l.rest
