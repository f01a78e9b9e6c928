use Rattle.mx_registers.proofs.LateProofs.DoneBecomes.{done_in_order}
use Rattle.mx_registers.proofs.late.done.sectors_in_order_leave_accomplishments.Goals as goal

pub returns : goal.returns
returns c = done_in_order
