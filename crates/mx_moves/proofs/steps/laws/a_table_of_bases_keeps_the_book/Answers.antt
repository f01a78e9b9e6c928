use Rattle.mx_moves.proofs.StepsProofs.EndedLemmas.{bases_stand}
use Rattle.mx_moves.proofs.steps.laws.a_table_of_bases_keeps_the_book.Goals as goal

pub returns : goal.returns
returns c = bases_stand
