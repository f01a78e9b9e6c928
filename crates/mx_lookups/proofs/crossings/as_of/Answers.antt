use Rattle.std.proofs.Common.{◌∙◌, ap, sym}
use Rattle.std.specs.Option.{option_map_or}
use Rattle.mx_book.specs.declared.commands.aircraft.Aircraft.{Aircraft}
use Rattle.mx_row_rules.proofs.FoundProofs.FoundLemmas.{aircraft_is}
use Rattle.mx_row_rules.specs.found.Said.{aircraft_in}
use Rattle.mx_lookups.proofs.NumbersProofs.BookRows.{aircraft_of_tail_at}
use Rattle.mx_lookups.proofs.NumbersProofs.Composed.{at_points, chosen, hands, rows_give}
use Rattle.mx_lookups.proofs.NumbersProofs.TableLemmas.{aircraft_at}
use Rattle.mx_lookups.proofs.crossings.as_of.Goals as goal

pub returns-in-Some : goal.returns-in-Some
returns-in-Some g c = record {
  looks_up =
      let made = ap (λ o. option_map_or (λ (a : Aircraft). a.as_of) o 0) (sym c.in-Some.is ∙ c.aircraft_in.ensures ∙ ap aircraft_in c.deref.ensures.value) in
      at_points (λ at is. rows_give (aircraft_at is) (λ rows. option_map_or (λ (a : Aircraft). a.as_of) (aircraft_in rows) 0) c.in_ok-rows.ensures.same_reference (aircraft_of_tail_at is _ c.in_ok-rows.ensures.reads) c.in_ok-rows.ensures.reads made
      (λ book b found. ap (λ o. option_map_or (λ (a : Aircraft). a.as_of) o 0) (ap aircraft_in found ∙ aircraft_is book c.args.tail.now)));
}

pub returns : goal.returns
returns g c = record {
  looks_up =
      let made = ap (λ o. option_map_or (λ (a : Aircraft). a.as_of) o 0) (sym c.in-None.is ∙ c.aircraft_in.ensures ∙ ap aircraft_in c.deref.ensures.value) in
      at_points (λ at is. rows_give (aircraft_at is) (λ rows. option_map_or (λ (a : Aircraft). a.as_of) (aircraft_in rows) 0) c.in_ok-rows.ensures.same_reference (aircraft_of_tail_at is _ c.in_ok-rows.ensures.reads) c.in_ok-rows.ensures.reads made
      (λ book b found. ap (λ o. option_map_or (λ (a : Aircraft). a.as_of) o 0) (ap aircraft_in found ∙ aircraft_is book c.args.tail.now)));
}

pub returns-in_err-rows : goal.returns-in_err-rows
returns-in_err-rows g c = record { looks_up = at_points (λ at is. hands c.from_residual.ensures.1 (λ _ _ it. it) (chosen (aircraft_at is) c.in_err-rows.ensures.same_reference (aircraft_of_tail_at is _ c.in_err-rows.ensures.reads) c.in_err-rows.ensures.reads)) }
