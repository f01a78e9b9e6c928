use Rattle.mx_moves.proofs.StepsProofs.ComponentLemmas.{component_stands, component_whole}
use Rattle.mx_moves.proofs.steps.laws.a_moved_component_keeps_the_book.Goals as goal

pub returns-clause-stand : goal.returns-clause-stand
returns-clause-stand c = component_stands

pub returns-clause-whole : goal.returns-clause-whole
returns-clause-whole c = component_whole
