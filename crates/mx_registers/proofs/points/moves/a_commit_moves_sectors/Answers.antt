use Rattle.mx_registers.proofs.PointsProofs.PointLemmas.{sectors_moved}
use Rattle.mx_registers.proofs.PointsProofs.StepLemmas.{sectors_next_point}
use Rattle.mx_registers.proofs.points.moves.a_commit_moves_sectors.Goals as goal

pub returns : goal.returns
returns c = record { rows = sectors_moved; point = sectors_next_point }
