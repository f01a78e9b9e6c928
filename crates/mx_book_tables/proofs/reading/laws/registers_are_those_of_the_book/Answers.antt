use Rattle.mx_book_tables.proofs.ReadingProofs.DeferralLemmas.{registers_are, registers_there}
use Rattle.mx_book_tables.proofs.reading.laws.registers_are_those_of_the_book.Goals as goal

pub returns : goal.returns
returns c = record {
  tables = λ at schema up past has. registers_there at past schema up has;
  rows = λ at trees rows book past. registers_are at past trees rows book;
}
