use Rattle.mx_office.proofs.StandsLemmas.{empty_stands}
use Rattle.mx_office.proofs.laws.new_tables_stand_for_the_empty_book.Goals as goal

pub returns : goal.returns
returns c = empty_stands
