use Rattle.mx_book.proofs.SpanLemmas.{one_component}
use Rattle.mx_book.proofs.laws.one_component_in_a_position.Goals as goal

pub returns : goal.returns
returns c = one_component
