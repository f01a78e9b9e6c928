use Rattle.std.proofs.Common.{◌≡◌, ◌++◌, length}
use Rattle.mx_verify.proofs.MergedProofs.TotalLemmas.{IsAt, totals_from}
use Rattle.mx_verify.proofs.merged.totals.total_rows.Given as goal

-- the totals so far, and those of the entries that are left, are all; and the entries that are left stand behind those before the next number
abbrev pub invariant-loop-entry : goal.invariant-loop-entry
invariant-loop-entry l = (l.rows.items ++ totals_from l.book l.seq l.rest ≡ totals_from l.book 1 l.book) × IsAt l.book l.rest l.seq

abbrev pub decreases-loop-entry : goal.decreases-loop-entry
decreases-loop-entry l = length l.rest
