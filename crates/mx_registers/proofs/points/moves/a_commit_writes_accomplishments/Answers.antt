use Rattle.mx_registers.proofs.PointsProofs.MoveLemmas.{bases_left, done_written}
use Rattle.mx_registers.proofs.PointsProofs.NextLemmas.{bases_next_left, done_next}
use Rattle.mx_registers.proofs.points.moves.a_commit_writes_accomplishments.Goals as goal

pub returns : goal.returns
returns c = record { next_done = done_next; next_bases = bases_next_left; done = done_written; bases = bases_left }
