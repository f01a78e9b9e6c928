use Rattle.mx_moves.proofs.StepsProofs.EndedLemmas.{finished_stands}
use Rattle.mx_moves.proofs.steps.laws.the_end_of_a_move_keeps_the_book.Goals as goal

pub returns : goal.returns
returns c = finished_stands
