use Rattle.mx_registers.proofs.KeptProofs.BaseGrowth.{timely_none_late}
use Rattle.mx_registers.proofs.KeptProofs.CreditLemmas.{credited_there, lands_later}
use Rattle.mx_registers.proofs.KeptProofs.LandingLemmas.{landing_none_late}
use Rattle.mx_registers.proofs.kept.lives.sectors_in_order.Goals as goal

pub returns : goal.returns
returns c = record {
  there = λ book s item b shape timely. credited_there book item s b (lands_later s shape) timely;
  timely = λ book s item b shape timely. timely_none_late book s item b shape timely;
  landing = landing_none_late;
}
