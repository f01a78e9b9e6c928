use Rattle.mx_registers.proofs.KeptProofs.TouchedLemmas.{in_order_touched}
use Rattle.mx_registers.proofs.kept.totals.sectors_in_order_touch_what_is_there.Goals as goal

pub returns : goal.returns
returns c = in_order_touched
