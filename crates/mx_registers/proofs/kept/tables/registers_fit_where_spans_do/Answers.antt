use Rattle.mx_registers.proofs.KeptProofs.SpanFits.{fittings_fit, removals_fit}
use Rattle.mx_registers.proofs.kept.tables.registers_fit_where_spans_do.Goals as goal

pub returns : goal.returns
returns c = record { fittings = fittings_fit; removals = removals_fit }
