use Rattle.mx_moves.proofs.StepsProofs.WrittenLemmas.{next_item, no_item}
use Rattle.mx_moves.proofs.steps.laws.next_totals_are_of_next_items.Goals as goal

pub returns-clause-next : goal.returns-clause-next
returns-clause-next c = next_item

pub returns-clause-none : goal.returns-clause-none
returns-clause-none c = no_item
