use Rattle.mx_office.proofs.StandsLemmas.{stands_once}
use Rattle.mx_office.proofs.laws.tables_stand_for_one_book.Goals as goal

pub returns : goal.returns
returns c = stands_once
