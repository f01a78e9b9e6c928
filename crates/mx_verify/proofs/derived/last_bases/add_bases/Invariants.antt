use Rattle.std.proofs.Common.{ℕ, List, length}
use Rattle.mx_verify.specs.merged.Keys.{AreKeys}
use Rattle.mx_verify.specs.derived.Kept.{AreBasesAt}
use Rattle.mx_verify.proofs.DerivedProofs.KeptLemmas.{Gathers}
use Rattle.mx_verify.proofs.derived.last_bases.add_bases.Given as goal

-- the rows are the last bases of the tasks before and of those so far
abbrev pub invariant-loop-key : goal.invariant-loop-key
invariant-loop-key l = (before : List (ℕ × List ℕ)) → AreBasesAt l.book before l.initial.rows.items → AreKeys l.initial.rows.items l.initial.met → Gathers l.book l.keys l.rest before l.rows.items l.met

abbrev pub decreases-loop-key : goal.decreases-loop-key
decreases-loop-key l = length l.rest
