use Rattle.mx_registers.proofs.KeptProofs.ItemNumbers.{total_rows-changed}
use Rattle.mx_registers.proofs.kept.totals.totals_change.Goals as goal

pub returns : goal.returns
returns c book entry = total_rows-changed book entry.doc entry.act
