use Rattle.mx_registers.proofs.KeptProofs.PutBases.{command_bases}
use Rattle.mx_registers.proofs.kept.bases.commands_put_bases.Goals as goal

pub returns : goal.returns
returns c book entry = command_bases book entry.doc entry.act
