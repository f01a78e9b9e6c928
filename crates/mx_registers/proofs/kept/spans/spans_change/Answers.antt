use Rattle.mx_registers.proofs.KeptProofs.SpanGrowth.{spans-more}
use Rattle.mx_registers.proofs.kept.spans.spans_change.Goals as goal

pub returns : goal.returns
returns c = spans-more
