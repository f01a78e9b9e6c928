use Rattle.mx_registers.proofs.KeptProofs.NumbersThere.{numbers_are_credited}
use Rattle.mx_registers.proofs.kept.totals.numbers_are_of_what_is_credited.Goals as goal

pub returns : goal.returns
returns c = numbers_are_credited
