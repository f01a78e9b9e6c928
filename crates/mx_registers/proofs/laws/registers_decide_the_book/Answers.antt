use Rattle.mx_registers.proofs.MergeLemmas.{one_book}
use Rattle.mx_registers.proofs.laws.registers_decide_the_book.Goals as goal

pub returns : goal.returns
returns c = one_book
