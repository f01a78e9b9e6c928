use Rattle.mx_registers.proofs.KeptProofs.TouchedLemmas.{spans_untouched, totals_untouched}
use Rattle.mx_registers.proofs.kept.totals.other_rows_stay.Goals as goal

pub returns : goal.returns
returns c = record { totals = λ book entry. totals_untouched book entry.doc entry.act; spans = spans_untouched }
