use Rattle.std.proofs.Common.{◌∙◌, ap}
use Rattle.mx_row_rules.proofs.FoundProofs.FoundLemmas.{component_is}
use Rattle.mx_row_rules.specs.found.Said.{component_in}
use Rattle.mx_lookups.proofs.NumbersProofs.BookRows.{components_of_serial}
use Rattle.mx_lookups.proofs.NumbersProofs.Composed.{chosen, hands, rows_give}
use Rattle.mx_lookups.proofs.NumbersProofs.TableLemmas.{components}
use Rattle.mx_lookups.proofs.numbers.items.component.Goals as goal

pub returns : goal.returns
returns g c = record { looks_up = rows_give components component_in c.in_ok-rows.ensures.same_reference (components_of_serial _ c.in_ok-rows.ensures.reads) c.in_ok-rows.ensures.reads (c.component_in.ensures ∙ ap component_in c.deref.ensures.value) (λ book b found. ap component_in found ∙ component_is book c.args.serial.now) }

pub returns-in_err-rows : goal.returns-in_err-rows
returns-in_err-rows g c = record { looks_up = hands c.from_residual.ensures.1 (λ _ _ it. it) (chosen components c.in_err-rows.ensures.same_reference (components_of_serial _ c.in_err-rows.ensures.reads) c.in_err-rows.ensures.reads) }
