use Rattle.mx_registers.proofs.LateProofs.SpansApart.{numbers_distinct}
use Rattle.mx_registers.proofs.late.done.numbers_are_credited_once.Goals as goal

pub returns : goal.returns
returns c = numbers_distinct
