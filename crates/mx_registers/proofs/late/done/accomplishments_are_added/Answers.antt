use Rattle.mx_registers.proofs.LateProofs.DoneAdded.{rows_added}
use Rattle.mx_registers.proofs.late.done.accomplishments_are_added.Goals as goal

pub returns : goal.returns
returns c book doc act number item id b new shape at late = rows_added book doc act number item id b new shape at late
