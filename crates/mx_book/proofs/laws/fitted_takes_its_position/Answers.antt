use Rattle.mx_book.proofs.SpanLemmas.{fitted_takes}
use Rattle.mx_book.proofs.laws.fitted_takes_its_position.Goals as goal

pub returns : goal.returns
returns c = fitted_takes
