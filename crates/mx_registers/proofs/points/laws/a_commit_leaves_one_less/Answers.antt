use Rattle.mx_registers.proofs.PointsProofs.CommitLemmas.{commit_counts}
use Rattle.mx_registers.proofs.points.laws.a_commit_leaves_one_less.Goals as goal

pub returns : goal.returns
returns c book at b h = (commit_counts book b at h).0
