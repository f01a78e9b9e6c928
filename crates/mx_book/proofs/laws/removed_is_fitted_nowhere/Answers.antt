use Rattle.mx_book.proofs.SpanLemmas.{removed_nowhere}
use Rattle.mx_book.proofs.laws.removed_is_fitted_nowhere.Goals as goal

pub returns : goal.returns
returns c = removed_nowhere
