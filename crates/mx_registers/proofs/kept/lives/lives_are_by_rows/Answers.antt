use Rattle.mx_registers.proofs.KeptProofs.MomentRows.{lives_by_rows}
use Rattle.mx_registers.proofs.kept.lives.lives_are_by_rows.Goals as goal

pub returns : goal.returns
returns c = lives_by_rows
