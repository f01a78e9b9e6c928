use Rattle.mx_moves.proofs.StepsProofs.LaterLemmas.{deferrals_stand}
use Rattle.mx_moves.proofs.steps.later_laws.a_new_table_of_deferrals_keeps_the_book.Goals as goal

pub returns : goal.returns
returns c = deferrals_stand
