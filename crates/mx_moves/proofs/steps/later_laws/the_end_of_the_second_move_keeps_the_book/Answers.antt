use Rattle.mx_moves.proofs.StepsProofs.LaterLemmas.{later_finished_stand, later_finished_whole}
use Rattle.mx_moves.proofs.steps.later_laws.the_end_of_the_second_move_keeps_the_book.Goals as goal

pub returns-clause-stand : goal.returns-clause-stand
returns-clause-stand c = later_finished_stand

pub returns-clause-whole : goal.returns-clause-whole
returns-clause-whole c = later_finished_whole
