use Rattle.mx_registers.proofs.LateProofs.FoundBecomes.{found_with_command}
use Rattle.mx_registers.proofs.late.found.found_cycles_become.Goals as goal

pub returns : goal.returns
returns c book command = found_with_command book command.doc command.act
