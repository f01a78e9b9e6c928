use Rattle.std.proofs.Common.{◌≡◌, ◌+◌, length}
use Rattle.mx_registers.specs.Lines.{take_lines}
use Rattle.mx_registers.specs.Merge.{place_lines, take_places}
use Rattle.mx_registers.proofs.TakeLemmas.{behind}
use Rattle.mx_registers.proofs.plain.taking.take_positions.Given as goal

-- the positions so far, and those that the rows that are left give, are all of them
abbrev pub invariant-loop-row : goal.invariant-loop-row
invariant-loop-row l = behind l.positions.items (take_lines place_lines l.seq (length l.positions.items + 1) l.rest) ≡ take_places l.seq l.rows

abbrev pub decreases-loop-row : goal.decreases-loop-row
decreases-loop-row l = length l.rest
