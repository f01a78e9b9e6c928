use Rattle.mx_moves.proofs.StepsProofs.MadeLemmas.{made_stands}
use Rattle.mx_moves.proofs.steps.laws.a_new_table_keeps_the_book.Goals as goal

pub returns : goal.returns
returns c = made_stands
