use Rattle.mx_registers.proofs.KeptProofs.BaseFits.{bases_fit}
use Rattle.mx_registers.proofs.KeptProofs.FitLemmas.{spans_fit, totals_fit}
use Rattle.mx_registers.proofs.kept.tables.kept_rows_fit.Goals as goal

pub returns : goal.returns
returns c = record { spans = spans_fit; totals = totals_fit; bases = bases_fit }
