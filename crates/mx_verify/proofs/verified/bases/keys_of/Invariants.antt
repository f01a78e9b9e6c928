use Rattle.std.proofs.Common.{length}
use Rattle.mx_verify.proofs.VerifiedProofs.KeyLemmas.{Keeps}
use Rattle.mx_verify.proofs.verified.bases.keys_of.Given as goal

-- the rows so far have distinct keys, which the map has
abbrev pub invariant-loop-row : goal.invariant-loop-row
invariant-loop-row l = Keeps l.rows l.rest l.keys

abbrev pub decreases-loop-row : goal.decreases-loop-row
decreases-loop-row l = length l.rest
