use Rattle.std.proofs.Common.{◌∙◌, ap}
use Rattle.mx_row_rules.proofs.FoundProofs.FoundLemmas.{tail_numbered}
use Rattle.mx_row_rules.specs.found.Names.{tail_in}
use Rattle.mx_lookups.proofs.NumbersProofs.BookRows.{aircraft_of_number_at}
use Rattle.mx_lookups.proofs.NumbersProofs.Composed.{at_points, chosen, hands, rows_give}
use Rattle.mx_lookups.proofs.NumbersProofs.TableLemmas.{aircraft_at}
use Rattle.mx_lookups.proofs.numbers.items.tail_of_number.Goals as goal

pub returns : goal.returns
returns g c = record { looks_up = at_points (λ at is. rows_give (aircraft_at is) tail_in c.in_ok-rows.ensures.same_reference (aircraft_of_number_at is _ c.in_ok-rows.ensures.reads) c.in_ok-rows.ensures.reads (c.tail_in.ensures ∙ ap tail_in c.deref.ensures.value) (λ book b found. ap tail_in found ∙ tail_numbered book c.args.number)) }

pub returns-in_err-rows : goal.returns-in_err-rows
returns-in_err-rows g c = record { looks_up = at_points (λ at is. hands c.from_residual.ensures.1 (λ _ _ it. it) (chosen (aircraft_at is) c.in_err-rows.ensures.same_reference (aircraft_of_number_at is _ c.in_err-rows.ensures.reads) c.in_err-rows.ensures.reads)) }
