use Rattle.std.proofs.Common.{length}
use Rattle.mx_indexed_book.proofs.MomentsProofs.WalkLemmas.{IsWalked}
use Rattle.mx_indexed_book.proofs.moments.done.all_done.Given as goal

-- the rows and the bases are those of what is said before what is left
abbrev pub invariant-loop-a : goal.invariant-loop-a
invariant-loop-a l = IsWalked l.book l.said l.rest l.rows.items l.bases

abbrev pub decreases-loop-a : goal.decreases-loop-a
decreases-loop-a l = length l.rest
