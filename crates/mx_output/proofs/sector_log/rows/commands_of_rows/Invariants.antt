use Rattle.std.proofs.Common.{◌≡◌, ◌++◌, length}
use Rattle.mx_output.specs.sector_log.Rows.{good_rows}
use Rattle.mx_output.proofs.sector_log.rows.commands_of_rows.Given as goal

-- so far, and what is left, give the whole
abbrev pub invariant-loop-row : goal.invariant-loop-row
invariant-loop-row l = l.commands.items ++ good_rows l.rest ≡ good_rows l.rows

abbrev pub decreases-loop-row : goal.decreases-loop-row
decreases-loop-row l = length l.rest
