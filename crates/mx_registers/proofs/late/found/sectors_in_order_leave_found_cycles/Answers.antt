use Rattle.mx_registers.proofs.LateProofs.FoundBecomes.{found_in_order}
use Rattle.mx_registers.proofs.late.found.sectors_in_order_leave_found_cycles.Goals as goal

pub returns : goal.returns
returns c = found_in_order
