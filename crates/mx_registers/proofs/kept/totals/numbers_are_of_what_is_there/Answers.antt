use Rattle.mx_registers.proofs.KeptProofs.NumbersThere.{numbers_are_there}
use Rattle.mx_registers.proofs.kept.totals.numbers_are_of_what_is_there.Goals as goal

pub returns : goal.returns
returns c = numbers_are_there
