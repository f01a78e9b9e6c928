use Rattle.mx_registers.proofs.KeptProofs.OneTotal.{place_total}
use Rattle.mx_registers.proofs.kept.totals.a_place_has_one_total.Goals as goal

pub returns : goal.returns
returns c = place_total
