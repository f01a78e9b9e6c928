use Rattle.mx_registers.proofs.PointsProofs.PointLemmas.{deferrals_moved, found_brought}
use Rattle.mx_registers.proofs.PointsProofs.StepLemmas.{deferrals_next_point}
use Rattle.mx_registers.proofs.points.moves.a_commit_moves_deferrals.Goals as goal

pub returns : goal.returns
returns c = record { rows = deferrals_moved; found = λ book mark b. found_brought book mark; point = deferrals_next_point }
