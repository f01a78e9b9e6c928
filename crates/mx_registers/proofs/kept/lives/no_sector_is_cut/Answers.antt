use Rattle.mx_registers.proofs.KeptProofs.UncutLemmas.{all_uncut}
use Rattle.mx_registers.proofs.kept.lives.no_sector_is_cut.Goals as goal

pub returns : goal.returns
returns c = all_uncut
