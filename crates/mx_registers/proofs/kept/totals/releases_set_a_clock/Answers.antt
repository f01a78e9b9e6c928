use Rattle.mx_registers.proofs.KeptProofs.SetClock.{released_totals}
use Rattle.mx_registers.proofs.kept.totals.releases_set_a_clock.Goals as goal

pub returns : goal.returns
returns c = released_totals
