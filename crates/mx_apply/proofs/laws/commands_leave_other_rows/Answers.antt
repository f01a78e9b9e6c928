use Rattle.mx_apply.proofs.LeftLemmas.{left_as_it_was}
use Rattle.mx_apply.proofs.laws.commands_leave_other_rows.Goals as goal

pub returns : goal.returns
returns c command trees rows own name row there never = left_as_it_was command trees rows own name row there never
