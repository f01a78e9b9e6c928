use Rattle.mx_book.proofs.KnownLemmas.{documents_distinct}
use Rattle.mx_book.proofs.laws.documents_are_distinct.Goals as goal

pub returns : goal.returns
returns c = documents_distinct
