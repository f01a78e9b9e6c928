use Rattle.mx_lists.proofs.FleetLaws.{dues_back}
use Rattle.mx_lists.proofs.laws.the_fleet_has_each_due_list.Goals as goal

pub returns : goal.returns
returns c = λ book tail day is. dues_back book tail is day
