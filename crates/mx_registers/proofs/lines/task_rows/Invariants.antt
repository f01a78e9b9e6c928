use Rattle.std.proofs.Common.{length}
use Rattle.mx_base.specs.rows.Rows.{FitsTask}
use Rattle.mx_registers.specs.Registers.{task_row}
use Rattle.mx_registers.proofs.RowsSoFar.{AreRowsSoFar}
use Rattle.mx_registers.proofs.lines.task_rows.Given as goal

abbrev pub invariant-loop-task : goal.invariant-loop-task
invariant-loop-task l = AreRowsSoFar task_row FitsTask l.seq l.tasks l.rows.items l.line l.rest

abbrev pub decreases-loop-task : goal.decreases-loop-task
decreases-loop-task l = length l.rest
