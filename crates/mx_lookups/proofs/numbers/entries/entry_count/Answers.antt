use Rattle.std.proofs.Common.{◌∙◌, ap}
use Rattle.mx_row_rules.specs.found.Names.{last_number}
use Rattle.mx_lookups.proofs.NumbersProofs.Composed.{chosen, hands, rows_give}
use Rattle.mx_lookups.proofs.NumbersProofs.LookupLemmas.{last_read}
use Rattle.mx_lookups.proofs.NumbersProofs.TableLemmas.{entries}
use Rattle.mx_lookups.proofs.numbers.entries.entry_count.Goals as goal

pub returns : goal.returns
returns g c = record { looks_up = rows_give entries last_number c.in_ok-rows.ensures.same_reference (last_read _ _ _ _ c.in_ok-rows.ensures.reads) c.in_ok-rows.ensures.reads (c.last_number.ensures ∙ ap last_number c.deref.ensures.value) (λ book b found. found) }

pub returns-in_err-rows : goal.returns-in_err-rows
returns-in_err-rows g c = record { looks_up = hands c.from_residual.ensures.1 (λ _ _ it. it) (chosen entries c.in_err-rows.ensures.same_reference (last_read _ _ _ _ c.in_err-rows.ensures.reads) c.in_err-rows.ensures.reads) }
