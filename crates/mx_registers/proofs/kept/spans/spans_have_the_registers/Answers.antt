use Rattle.mx_registers.proofs.KeptProofs.SpanRegisters.{fittings_in_spans, removals_in_spans}
use Rattle.mx_registers.proofs.kept.spans.spans_have_the_registers.Goals as goal

pub returns : goal.returns
returns c = record { fittings = fittings_in_spans; removals = removals_in_spans }
