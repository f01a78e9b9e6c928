use Rattle.mx_moves.proofs.StepsProofs.EndedLemmas.{totals_stand, totals_whole}
use Rattle.mx_moves.proofs.steps.laws.a_change_to_totals_keeps_the_book.Goals as goal

pub returns-clause-stand : goal.returns-clause-stand
returns-clause-stand c = totals_stand

pub returns-clause-whole : goal.returns-clause-whole
returns-clause-whole c = totals_whole
