use Rattle.mx_book.proofs.DefectLemmas.{new_doubles}
use Rattle.mx_book.proofs.laws.extension_at_most_doubles.Goals as goal

pub returns : goal.returns
returns c = new_doubles
