use Rattle.std.proofs.Common.{arith}
use Rattle.mx_migrate.proofs.SettleProofs.RankLemmas.{both_moves_few, rank_rises, ranked_up_to_3}
use Rattle.mx_migrate.proofs.settle.laws.openings_make_enough_commits.Goals as goal

pub returns : goal.returns
returns c = record {
  rises = λ at to here there behind. (let more = rank_rises at to (ranked_up_to_3 at here) (ranked_up_to_3 to there) behind in omega (arith, more));
  few = omega arith;
  book = both_moves_few;
}
