use Rattle.mx_registers.proofs.KeptProofs.NumberedClocks.{totals_by_number}
use Rattle.mx_registers.proofs.kept.totals.totals_change_by_number.Goals as goal

pub returns : goal.returns
returns c book entry = totals_by_number book entry.doc entry.act
