use Rattle.mx_registers.proofs.KeptProofs.InOrderTotals.{in_order_totals}
use Rattle.mx_registers.proofs.kept.totals.sectors_in_order_change_totals.Goals as goal

pub returns : goal.returns
returns c = in_order_totals
