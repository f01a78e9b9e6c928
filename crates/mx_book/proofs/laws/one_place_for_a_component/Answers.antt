use Rattle.mx_book.proofs.SpanLemmas.{one_place}
use Rattle.mx_book.proofs.laws.one_place_for_a_component.Goals as goal

pub returns : goal.returns
returns c = one_place
