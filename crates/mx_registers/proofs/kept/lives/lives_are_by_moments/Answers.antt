use Rattle.mx_registers.proofs.KeptProofs.MomentLemmas.{lives_by_moments}
use Rattle.mx_registers.proofs.kept.lives.lives_are_by_moments.Goals as goal

pub returns : goal.returns
returns c = lives_by_moments
