use Rattle.mx_moves.proofs.StepsProofs.WrittenLemmas.{total_stands}
use Rattle.mx_moves.proofs.steps.laws.a_written_total_keeps_the_book.Goals as goal

pub returns : goal.returns
returns c = total_stands
