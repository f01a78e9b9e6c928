use Rattle.std.proofs.Common.{◌≡◌, ◌++◌, length}
use Rattle.std.specs.Prelude.{map}
use Rattle.mx_indexed_book.specs.moments.Found.{found_row}
use Rattle.mx_indexed_book.proofs.moments.found.rows_of.Given as goal

-- the rows so far and those of the deferrals that are left are all
abbrev pub invariant-loop-deferral : goal.invariant-loop-deferral
invariant-loop-deferral l = l.rows.items ++ map (found_row l.book) l.rest ≡ map (found_row l.book) l.deferrals

abbrev pub decreases-loop-deferral : goal.decreases-loop-deferral
decreases-loop-deferral l = length l.rest
