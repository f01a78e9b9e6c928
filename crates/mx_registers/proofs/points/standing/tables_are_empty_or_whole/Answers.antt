use Rattle.mx_registers.proofs.PointsProofs.StandingLemmas.{always_whole, empty_where_absent, whole_where_settled}
use Rattle.mx_registers.proofs.points.standing.tables_are_empty_or_whole.Goals as goal

pub returns : goal.returns
returns c = record { absent = empty_where_absent; settled = whole_where_settled; always = always_whole }
