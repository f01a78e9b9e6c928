use Rattle.std.proofs.Common.{◌≡◌, length}
use Rattle.mx_verify.proofs.verified.same.are_same.Given as goal

-- what is left is the same exactly where all are
abbrev pub invariant-loop-row : goal.invariant-loop-row
invariant-loop-row g l = (l.rest ≡ l.others → l.one ≡ l.other) × (l.one ≡ l.other → l.rest ≡ l.others)

abbrev pub decreases-loop-row : goal.decreases-loop-row
decreases-loop-row g l = length l.rest
