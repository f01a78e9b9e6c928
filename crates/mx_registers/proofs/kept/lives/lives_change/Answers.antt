use Rattle.mx_registers.proofs.KeptProofs.LifeGrowth.{life_now-more}
use Rattle.mx_registers.proofs.kept.lives.lives_change.Goals as goal

pub returns : goal.returns
returns c book entry item = life_now-more book entry.doc entry.act item
