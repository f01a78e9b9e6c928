use Rattle.mx_registers.proofs.LateProofs.FoundBecomes.{found_of_deferrals}
use Rattle.mx_registers.proofs.late.found.found_cycles_are_of_deferrals.Goals as goal

pub returns : goal.returns
returns c = found_of_deferrals
