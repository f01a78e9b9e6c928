use Rattle.std.proofs.Common.{◌∙◌, ap, map}
use Rattle.mx_base.specs.declared.rows.rows.AircraftRow.{AircraftRow}
use Rattle.mx_row_rules.proofs.FoundProofs.PlaceLemmas.{all_tails}
use Rattle.mx_lookups.proofs.NumbersProofs.BookRows.{aircraft_all}
use Rattle.mx_lookups.proofs.NumbersProofs.Composed.{answers, chosen, hands}
use Rattle.mx_lookups.proofs.NumbersProofs.TableLemmas.{aircraft}
use Rattle.mx_lookups.proofs.fleet.tails.Goals as goal

pub returns : goal.returns
returns g c = record {
  looks_up =
      let names = map (λ (row : AircraftRow). row.tail) in
      let made = c.in_ok-tails_said.ensures ∙ ap names c.deref.ensures.value in
      answers (chosen aircraft c.in_ok-rows.ensures.same_reference (aircraft_all c.in_ok-rows.ensures.reads) c.in_ok-rows.ensures.reads) (λ book b found. made ∙ ap names found ∙ all_tails book) (λ _ are. (_, are, made));
}

pub returns-in_err-rows : goal.returns-in_err-rows
returns-in_err-rows g c = record { looks_up = hands c.from_residual.ensures.1 (λ _ _ it. it) (chosen aircraft c.in_err-rows.ensures.same_reference (aircraft_all c.in_err-rows.ensures.reads) c.in_err-rows.ensures.reads) }
