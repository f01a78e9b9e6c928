use Rattle.mx_registers.proofs.KeptProofs.ReleaseBases.{opened-base, unaccomplished-base}
use Rattle.mx_registers.proofs.kept.bases.openings_set_bases.Goals as goal

pub returns : goal.returns
returns c = record { stated = opened-base; left = λ book entry item id. unaccomplished-base book entry.doc entry.act item id }
