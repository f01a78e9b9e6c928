use Rattle.mx_registers.proofs.LateProofs.FoundBecomes.{found_fit}
use Rattle.mx_registers.proofs.late.found.found_cycles_fit.Goals as goal

pub returns : goal.returns
returns c = found_fit
