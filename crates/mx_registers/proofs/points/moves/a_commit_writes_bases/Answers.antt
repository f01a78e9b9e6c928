use Rattle.mx_registers.proofs.PointsProofs.MoveLemmas.{bases_written}
use Rattle.mx_registers.proofs.PointsProofs.NextLemmas.{bases_next}
use Rattle.mx_registers.proofs.points.moves.a_commit_writes_bases.Goals as goal

pub returns : goal.returns
returns c = record { next = bases_next; rows = bases_written }
