use Rattle.std.proofs.Common.{◌≡◌, ◌||◌, ℕ, nat_eq, length}
use Rattle.std.specs.HashSet.{contains}
use Rattle.std.specs.List.{list_any}
use Rattle.mx_row_rules.specs.found.Defects.{rectifies}
use Rattle.mx_lookups.proofs.rectified.defects_of_lines.Given as goal

-- a number is in the set, or a line that is left has it, where a line has it
abbrev pub invariant-loop-line : goal.invariant-loop-line
invariant-loop-line l = (n : ℕ) → (contains nat_eq l.defects n || list_any (rectifies n) l.rest) ≡ list_any (rectifies n) l.lines

abbrev pub decreases-loop-line : goal.decreases-loop-line
decreases-loop-line l = length l.rest
