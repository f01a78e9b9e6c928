use Rattle.mx_registers.proofs.PointsProofs.CommitLemmas.{counts_to_3}
use Rattle.mx_registers.proofs.points.laws.a_commit_leaves_one_less_to_layout_3.Goals as goal

pub returns : goal.returns
returns c book at b h = (counts_to_3 book b at h).0
