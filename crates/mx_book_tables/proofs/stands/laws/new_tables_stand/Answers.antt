use Rattle.mx_book_tables.proofs.StandsProofs.EmptyLemmas.{empty_stands}
use Rattle.mx_book_tables.proofs.stands.laws.new_tables_stand.Goals as goal

pub returns : goal.returns
returns c layout trees is empty = empty_stands layout is trees empty
