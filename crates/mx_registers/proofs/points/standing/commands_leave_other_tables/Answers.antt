use Rattle.mx_registers.proofs.PointsProofs.LeftLemmas.{are_left}
use Rattle.mx_registers.proofs.points.standing.commands_leave_other_tables.Goals as goal

pub returns : goal.returns
returns c = are_left
