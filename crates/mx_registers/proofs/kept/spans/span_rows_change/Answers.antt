use Rattle.mx_registers.proofs.KeptProofs.SpanRows.{span_rows-more}
use Rattle.mx_registers.proofs.kept.spans.span_rows_change.Goals as goal

pub returns : goal.returns
returns c = span_rows-more
