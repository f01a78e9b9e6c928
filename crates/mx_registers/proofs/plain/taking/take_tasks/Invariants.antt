use Rattle.std.proofs.Common.{◌≡◌, ◌+◌, length}
use Rattle.mx_registers.specs.Lines.{take_lines}
use Rattle.mx_registers.specs.Merge.{task_lines, take_tasks}
use Rattle.mx_registers.proofs.TakeLemmas.{behind}
use Rattle.mx_registers.proofs.plain.taking.take_tasks.Given as goal

-- the tasks so far, and those that the rows that are left give, are all of them
abbrev pub invariant-loop-row : goal.invariant-loop-row
invariant-loop-row l = behind l.tasks.items (take_lines task_lines l.seq (length l.tasks.items + 1) l.rest) ≡ take_tasks l.seq l.rows

abbrev pub decreases-loop-row : goal.decreases-loop-row
decreases-loop-row l = length l.rest
