use Rattle.mx_book_tables.proofs.StandsProofs.RowLemmas.{one_book, one_point}
use Rattle.mx_book_tables.proofs.stands.laws.tables_decide_the_book.Goals as goal

pub returns-clause-book : goal.returns-clause-book
returns-clause-book c = one_book

pub returns-clause-point : goal.returns-clause-point
returns-clause-point c = one_point
