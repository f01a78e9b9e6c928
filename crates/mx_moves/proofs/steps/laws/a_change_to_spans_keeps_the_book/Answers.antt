use Rattle.mx_moves.proofs.StepsProofs.MadeLemmas.{changed_stands, changed_whole}
use Rattle.mx_moves.proofs.steps.laws.a_change_to_spans_keeps_the_book.Goals as goal

pub returns-clause-stand : goal.returns-clause-stand
returns-clause-stand c = changed_stands

pub returns-clause-whole : goal.returns-clause-whole
returns-clause-whole c = changed_whole
