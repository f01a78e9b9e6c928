use Rattle.mx_book_tables.proofs.StandsProofs.FamilyLemmas.{understood_there}
use Rattle.mx_book_tables.proofs.stands.laws.tables_are_understood_there.Goals as goal

pub returns : goal.returns
returns c = understood_there
