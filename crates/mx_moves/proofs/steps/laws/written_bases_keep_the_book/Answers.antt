use Rattle.mx_moves.proofs.StepsProofs.WrittenLemmas.{bases_stand}
use Rattle.mx_moves.proofs.steps.laws.written_bases_keep_the_book.Goals as goal

pub returns : goal.returns
returns c = bases_stand
