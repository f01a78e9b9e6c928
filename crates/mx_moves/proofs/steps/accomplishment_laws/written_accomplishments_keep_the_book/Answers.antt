use Rattle.mx_moves.proofs.StepsProofs.AccomplishmentLemmas.{written_accomplishments_dated, written_accomplishments_stand}
use Rattle.mx_moves.proofs.steps.accomplishment_laws.written_accomplishments_keep_the_book.Goals as goal

pub returns-clause-stand : goal.returns-clause-stand
returns-clause-stand c = written_accomplishments_stand

pub returns-clause-dated : goal.returns-clause-dated
returns-clause-dated c = written_accomplishments_dated
