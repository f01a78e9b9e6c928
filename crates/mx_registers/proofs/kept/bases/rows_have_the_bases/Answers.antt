use Rattle.mx_registers.proofs.KeptProofs.BaseRows.{base_in_rows}
use Rattle.mx_registers.proofs.kept.bases.rows_have_the_bases.Goals as goal

pub returns : goal.returns
returns c = base_in_rows
