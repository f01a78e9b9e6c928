use Rattle.mx_registers.proofs.KeptProofs.PutBases.{timely_bases}
use Rattle.mx_registers.proofs.kept.bases.timely_commands_put_bases.Goals as goal

pub returns : goal.returns
returns c book entry = timely_bases book entry.doc entry.act
