use Rattle.mx_registers.proofs.KeptProofs.BaseGrowth.{base-more}
use Rattle.mx_registers.proofs.kept.bases.bases_change.Goals as goal

pub returns : goal.returns
returns c book entry item id = base-more book entry.doc entry.act item id
