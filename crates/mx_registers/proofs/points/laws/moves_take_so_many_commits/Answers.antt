use Rattle.std.proofs.Common.{refl}
use Rattle.mx_base.specs.Settled.{settled}
use Rattle.mx_registers.specs.points.Commits.{commits_of_both_moves, commits_of_second_move}
use Rattle.mx_registers.proofs.PointsProofs.CommitLemmas.{counts_to_3}
use Rattle.mx_registers.proofs.PointsProofs.ReachLemmas.{from_first_on, from_second, reach_to}
use Rattle.mx_registers.proofs.points.laws.moves_take_so_many_commits.Goals as goal

pub returns : goal.returns
returns c = record {
  reached = λ book b. (reach_to book 3 (counts_to_3 book b) (commits_of_both_moves book) (settled 1) refl refl (from_first_on book b)).0;
  on_way = λ book commits b less. (reach_to book 3 (counts_to_3 book b) (commits_of_both_moves book) (settled 1) refl refl (from_first_on book b)).1 commits less;
  second = λ book b. (reach_to book 3 (counts_to_3 book b) (commits_of_second_move book) (settled 2) refl refl (from_second book b)).0;
  left = λ book b. from_second book b;
}
