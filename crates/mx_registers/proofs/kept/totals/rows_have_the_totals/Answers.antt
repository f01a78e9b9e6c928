use Rattle.mx_registers.proofs.KeptProofs.OneTotal.{total_found}
use Rattle.mx_registers.proofs.kept.totals.rows_have_the_totals.Goals as goal

pub returns : goal.returns
returns c = total_found
