use Rattle.mx_registers.proofs.KeptProofs.ClockLemmas.{clock-more}
use Rattle.mx_registers.proofs.kept.lives.clocks_change.Goals as goal

pub returns : goal.returns
returns c = clock-more
