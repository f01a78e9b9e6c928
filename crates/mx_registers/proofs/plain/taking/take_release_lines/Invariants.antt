use Rattle.std.proofs.Common.{◌≡◌, ◌+◌, length}
use Rattle.mx_registers.specs.Lines.{take_lines}
use Rattle.mx_registers.specs.Merge.{lines_of_release, take_release_lines}
use Rattle.mx_registers.proofs.TakeLemmas.{behind}
use Rattle.mx_registers.proofs.plain.taking.take_release_lines.Given as goal

-- the lines so far, and those that the rows that are left give, are all of them
abbrev pub invariant-loop-row : goal.invariant-loop-row
invariant-loop-row l = behind l.lines.items (take_lines (lines_of_release l.book) l.seq (length l.lines.items + 1) l.rest) ≡ take_release_lines l.book l.seq l.rows

abbrev pub decreases-loop-row : goal.decreases-loop-row
decreases-loop-row l = length l.rest
