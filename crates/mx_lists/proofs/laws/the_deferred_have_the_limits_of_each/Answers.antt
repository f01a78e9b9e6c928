use Rattle.mx_lists.proofs.FleetLaws.{limits_back}
use Rattle.mx_lists.proofs.laws.the_deferred_have_the_limits_of_each.Goals as goal

pub returns : goal.returns
returns c = limits_back
