use Rattle.std.proofs.Common.{◌∙◌, ap}
use Rattle.mx_row_rules.proofs.FoundProofs.FoundLemmas.{serial_is}
use Rattle.mx_row_rules.specs.found.Names.{component_number}
use Rattle.mx_lookups.proofs.NumbersProofs.BookRows.{components_of_serial_at}
use Rattle.mx_lookups.proofs.NumbersProofs.Composed.{at_points, chosen, hands, rows_give}
use Rattle.mx_lookups.proofs.NumbersProofs.TableLemmas.{components_at}
use Rattle.mx_lookups.proofs.numbers.items.component_number.Goals as goal

pub returns : goal.returns
returns g c = record { looks_up = at_points (λ at is. rows_give (components_at is) component_number c.in_ok-rows.ensures.same_reference (components_of_serial_at is _ c.in_ok-rows.ensures.reads) c.in_ok-rows.ensures.reads (c.component_number.ensures ∙ ap component_number c.deref.ensures.value) (λ book b found. ap component_number found ∙ serial_is book c.args.serial.now)) }

pub returns-in_err-rows : goal.returns-in_err-rows
returns-in_err-rows g c = record { looks_up = at_points (λ at is. hands c.from_residual.ensures.1 (λ _ _ it. it) (chosen (components_at is) c.in_err-rows.ensures.same_reference (components_of_serial_at is _ c.in_err-rows.ensures.reads) c.in_err-rows.ensures.reads)) }
