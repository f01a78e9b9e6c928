use Rattle.std.proofs.Common.{◌∙◌, ap}
use Rattle.mx_row_rules.proofs.FoundProofs.FoundLemmas.{aircraft_is}
use Rattle.mx_row_rules.specs.found.Said.{aircraft_in}
use Rattle.mx_lookups.proofs.NumbersProofs.BookRows.{aircraft_of_tail}
use Rattle.mx_lookups.proofs.NumbersProofs.Composed.{chosen, hands, rows_give}
use Rattle.mx_lookups.proofs.NumbersProofs.TableLemmas.{aircraft}
use Rattle.mx_lookups.proofs.numbers.items.aircraft.Goals as goal

pub returns : goal.returns
returns g c = record { looks_up = rows_give aircraft aircraft_in c.in_ok-rows.ensures.same_reference (aircraft_of_tail _ c.in_ok-rows.ensures.reads) c.in_ok-rows.ensures.reads (c.aircraft_in.ensures ∙ ap aircraft_in c.deref.ensures.value) (λ book b found. ap aircraft_in found ∙ aircraft_is book c.args.tail.now) }

pub returns-in_err-rows : goal.returns-in_err-rows
returns-in_err-rows g c = record { looks_up = hands c.from_residual.ensures.1 (λ _ _ it. it) (chosen aircraft c.in_err-rows.ensures.same_reference (aircraft_of_tail _ c.in_err-rows.ensures.reads) c.in_err-rows.ensures.reads) }
