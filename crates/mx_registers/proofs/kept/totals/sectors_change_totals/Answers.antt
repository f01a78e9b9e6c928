use Rattle.mx_registers.proofs.KeptProofs.NumbersThere.{sector_totals}
use Rattle.mx_registers.proofs.kept.totals.sectors_change_totals.Goals as goal

pub returns : goal.returns
returns c = sector_totals
