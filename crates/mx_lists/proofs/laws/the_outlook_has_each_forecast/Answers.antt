use Rattle.mx_lists.proofs.FleetLaws.{reached_back}
use Rattle.mx_lists.proofs.laws.the_outlook_has_each_forecast.Goals as goal

pub returns : goal.returns
returns c = λ book tail day days minutes cycles is. reached_back book tail is day days minutes cycles
