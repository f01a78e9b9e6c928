use Rattle.std.proofs.Common.{◌≡◌, ◌≤◌, ◌+◌, ◌++◌, length}
use Rattle.std.specs.Prelude.{vec_capacity}
use Rattle.mx_output.specs.sector_log.Rows.{told}
use Rattle.mx_output.proofs.sector_log.rows.tell_rows.Given as goal

-- so far, and what is left, give the whole, and there is room for it
abbrev pub invariant-loop-row : goal.invariant-loop-row
invariant-loop-row l = record {
  whole : l.said.items ++ told l.rest l.left ≡ told l.rows l.replies;
  room : length l.said.items + length l.rest ≤ vec_capacity l.said;
}

abbrev pub decreases-loop-row : goal.decreases-loop-row
decreases-loop-row l = length l.rest
