use Rattle.mx_moves.proofs.StepsProofs.SectorLemmas.{sectors_stand, sectors_whole}
use Rattle.mx_moves.proofs.steps.laws.moved_sectors_keep_the_book.Goals as goal

pub returns-clause-stand : goal.returns-clause-stand
returns-clause-stand c = sectors_stand

pub returns-clause-whole : goal.returns-clause-whole
returns-clause-whole c = sectors_whole
