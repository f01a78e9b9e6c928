use Rattle.std.proofs.Common.{rules}
use Rattle.std.proofs.lemmas.List.Sorted.{IsNonDecreasingBy-from_sort_by_key}
use Rattle.mx_indexed_book.specs.moments.Flown.{component_of}
use Rattle.mx_indexed_book.proofs.moments.flown.sort_spans.Goals as goal

pub returns-in-Ok-clause-order : goal.returns-in-Ok-clause-order
returns-in-Ok-clause-order c = IsNonDecreasingBy-from_sort_by_key component_of _ c.in-Ok.ensures.sorted (λ a r q k. search rules)
