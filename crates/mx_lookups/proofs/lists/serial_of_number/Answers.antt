use Rattle.std.proofs.Common.{◌∙◌, ap}
use Rattle.mx_row_rules.proofs.FoundProofs.FoundLemmas.{serial_numbered}
use Rattle.mx_row_rules.specs.found.Names.{serial_in}
use Rattle.mx_lookups.proofs.NumbersProofs.BookRows.{components_of_number}
use Rattle.mx_lookups.proofs.NumbersProofs.Composed.{chosen, hands, rows_give}
use Rattle.mx_lookups.proofs.NumbersProofs.TableLemmas.{components}
use Rattle.mx_lookups.proofs.lists.serial_of_number.Goals as goal

pub returns : goal.returns
returns g c = record { looks_up = rows_give components serial_in c.in_ok-rows.ensures.same_reference (components_of_number _ c.in_ok-rows.ensures.reads) c.in_ok-rows.ensures.reads (c.serial_in.ensures ∙ ap serial_in c.deref.ensures.value) (λ book b found. ap serial_in found ∙ serial_numbered book c.args.number) }

pub returns-in_err-rows : goal.returns-in_err-rows
returns-in_err-rows g c = record { looks_up = hands c.from_residual.ensures.1 (λ _ _ it. it) (chosen components c.in_err-rows.ensures.same_reference (components_of_number _ c.in_err-rows.ensures.reads) c.in_err-rows.ensures.reads) }
