use Rattle.mx_moves.proofs.StepsProofs.LaterLemmas.{accomplishments_stand, accomplishments_whole}
use Rattle.mx_moves.proofs.steps.later_laws.a_change_to_accomplishments_keeps_the_book.Goals as goal

pub returns-clause-stand : goal.returns-clause-stand
returns-clause-stand c = accomplishments_stand

pub returns-clause-whole : goal.returns-clause-whole
returns-clause-whole c = accomplishments_whole
