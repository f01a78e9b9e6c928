use Rattle.mx_registers.proofs.PointsProofs.MoveLemmas.{totals_moved}
use Rattle.mx_registers.proofs.points.moves.a_commit_writes_a_total.Goals as goal

pub returns : goal.returns
returns c = totals_moved
