use Rattle.mx_moves.proofs.StepsProofs.DeferralLemmas.{moved_deferrals_stand, moved_deferrals_whole}
use Rattle.mx_moves.proofs.steps.deferral_laws.moved_deferrals_keep_the_book.Goals as goal

pub returns-clause-stand : goal.returns-clause-stand
returns-clause-stand c = moved_deferrals_stand

pub returns-clause-whole : goal.returns-clause-whole
returns-clause-whole c = moved_deferrals_whole
