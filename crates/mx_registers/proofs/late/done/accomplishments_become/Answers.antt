use Rattle.mx_registers.proofs.LateProofs.DoneBecomes.{done_with_command}
use Rattle.mx_registers.proofs.late.done.accomplishments_become.Goals as goal

pub returns : goal.returns
returns c book command = done_with_command book command.doc command.act
