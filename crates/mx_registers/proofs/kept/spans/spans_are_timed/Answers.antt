use Rattle.mx_registers.proofs.KeptProofs.ClockLemmas.{spans_timed}
use Rattle.mx_registers.proofs.kept.spans.spans_are_timed.Goals as goal

pub returns : goal.returns
returns c = spans_timed
