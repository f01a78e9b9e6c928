use Rattle.mx_registers.proofs.LateProofs.DoneTable.{rows_of_task}
use Rattle.mx_registers.proofs.late.done.rows_of_a_task.Goals as goal

pub returns : goal.returns
returns c = rows_of_task
