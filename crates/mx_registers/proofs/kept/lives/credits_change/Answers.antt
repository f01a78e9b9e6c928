use Rattle.mx_registers.proofs.KeptProofs.CreditLemmas.{credited_by}
use Rattle.mx_registers.proofs.kept.lives.credits_change.Goals as goal

pub returns : goal.returns
returns c book entry item = credited_by book entry.doc entry.act item
