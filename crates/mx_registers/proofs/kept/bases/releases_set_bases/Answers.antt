use Rattle.mx_registers.proofs.KeptProofs.ReleaseBases.{released-base}
use Rattle.mx_registers.proofs.kept.bases.releases_set_bases.Goals as goal

pub returns : goal.returns
returns c = released-base
