use Rattle.std.proofs.Common.{◌∙◌, ap}
use Rattle.mx_row_rules.proofs.FoundProofs.FoundLemmas.{tail_is}
use Rattle.mx_row_rules.specs.found.Names.{aircraft_number}
use Rattle.mx_lookups.proofs.NumbersProofs.BookRows.{aircraft_of_tail_at}
use Rattle.mx_lookups.proofs.NumbersProofs.Composed.{at_points, chosen, hands, rows_give}
use Rattle.mx_lookups.proofs.NumbersProofs.TableLemmas.{aircraft_at}
use Rattle.mx_lookups.proofs.numbers.items.aircraft_number.Goals as goal

pub returns : goal.returns
returns g c = record { looks_up = at_points (λ at is. rows_give (aircraft_at is) aircraft_number c.in_ok-rows.ensures.same_reference (aircraft_of_tail_at is _ c.in_ok-rows.ensures.reads) c.in_ok-rows.ensures.reads (c.aircraft_number.ensures ∙ ap aircraft_number c.deref.ensures.value) (λ book b found. ap aircraft_number found ∙ tail_is book c.args.tail.now)) }

pub returns-in_err-rows : goal.returns-in_err-rows
returns-in_err-rows g c = record { looks_up = at_points (λ at is. hands c.from_residual.ensures.1 (λ _ _ it. it) (chosen (aircraft_at is) c.in_err-rows.ensures.same_reference (aircraft_of_tail_at is _ c.in_err-rows.ensures.reads) c.in_err-rows.ensures.reads)) }
