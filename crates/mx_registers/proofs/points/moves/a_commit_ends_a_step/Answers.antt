use Rattle.std.proofs.Common.{arith}
use Rattle.mx_base.specs.Settled.{settled}
use Rattle.mx_registers.proofs.PointsProofs.EndLemmas.{tables_stay, tables_stay_to}
use Rattle.mx_registers.proofs.points.moves.a_commit_ends_a_step.Goals as goal

pub returns : goal.returns
returns c = record {
  begins = λ book b. tables_stay book b (settled 1) (λ some. absurd (omega arith));
  ends = λ book at b none. tables_stay book b at (λ some. none);
  to_layout_3 = λ book at b none. tables_stay_to book b 3 at none;
}
