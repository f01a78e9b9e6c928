use Rattle.mx_registers.proofs.LateProofs.DoneOnce.{done_once}
use Rattle.mx_registers.proofs.LateProofs.DoneOrder.{done_decided, rows_rise}
use Rattle.mx_registers.proofs.late.done.accomplishments_stand_by_tasks.Goals as goal

pub returns-clause-once : goal.returns-clause-once
returns-clause-once c = done_once

pub returns-clause-rising : goal.returns-clause-rising
returns-clause-rising c = rows_rise

pub returns-clause-decided : goal.returns-clause-decided
returns-clause-decided c = done_decided
