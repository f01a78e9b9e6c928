use Rattle.std.proofs.Common.{refl}
use Rattle.mx_registers.specs.points.Commits.{commits_of_move}
use Rattle.mx_base.specs.Settled.{settled}
use Rattle.mx_registers.proofs.PointsProofs.ReachLemmas.{from_first, reach}
use Rattle.mx_registers.proofs.points.laws.a_move_takes_so_many_commits.Goals as goal

pub returns : goal.returns
returns c = record {
  reached = λ book b. (reach book b (commits_of_move book) (settled 1) refl (from_first book b)).0;
  on_way = λ book commits b less. (reach book b (commits_of_move book) (settled 1) refl (from_first book b)).1 commits less;
  left = λ book b. from_first book b;
}
