use Rattle.mx_registers.proofs.PointsProofs.StayLemmas.{moved_alike, others_stay}
use Rattle.mx_registers.proofs.points.moves.a_commit_leaves_other_tables.Goals as goal

pub returns : goal.returns
returns c = record { steps = moved_alike; tables = others_stay }
