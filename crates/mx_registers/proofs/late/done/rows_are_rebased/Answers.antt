use Rattle.mx_registers.proofs.LateProofs.DoneChain.{rebased_rows}
use Rattle.mx_registers.proofs.late.done.rows_are_rebased.Goals as goal

pub returns : goal.returns
returns c = rebased_rows
