use Rattle.mx_registers.proofs.PointsProofs.StandingLemmas.{stand_once}
use Rattle.mx_registers.proofs.points.standing.each_row_stands_once.Goals as goal

pub returns : goal.returns
returns c = stand_once
