use Rattle.std.proofs.Common.{◌∙◌, ap, refl, sym, inr}
use Rattle.mx_row_rules.proofs.FoundProofs.PlaceLemmas.{part_found, part_missed}
use Rattle.mx_row_rules.specs.found.Said.{part_in}
use Rattle.mx_lookups.proofs.NumbersProofs.BookRows.{places_of}
use Rattle.mx_lookups.proofs.NumbersProofs.Composed.{answers, behind, chosen, by_first, hands, none_given, some_given}
use Rattle.mx_lookups.proofs.NumbersProofs.TableLemmas.{places}
use Rattle.mx_lookups.specs.numbers.Given.{AircraftNumber}
use Rattle.mx_lookups.proofs.numbers.items.part_at.Goals as goal

pub returns-in_ok-rows-in-Some : goal.returns-in_ok-rows-in-Some
returns-in_ok-rows-in-Some g c = record {
  looks_up =
      let made = c.part_in.ensures ∙ ap (λ rows. part_in rows c.args.position.now) c.deref.ensures.value in
      answers (behind c.in_ok-found.ensures.looks_up.now (chosen places c.in_ok-rows-in-Some.ensures.same_reference (places_of _ c.in_ok-rows-in-Some.ensures.reads) c.in_ok-rows-in-Some.ensures.reads))
      (λ book b both. made ∙ ap (λ rows. part_in rows c.args.position.now) both.1 ∙ part_found c.args.tail.now book c.args.position.now c.in-Some.number b (sym both.0 ∙ c.in-Some.is))
      (λ _ both. some_given c.in-Some.is both.0 (_, both.1, made));
}

pub returns-in-None : goal.returns-in-None
returns-in-None g c = record { looks_up = answers c.in_ok-found.ensures.looks_up.now (λ book b found. sym (part_missed c.args.tail.now book c.args.position.now (sym found ∙ c.in-None.is))) (λ _ found. none_given c.in-None.is found refl) }

pub returns-in_err-rows-in-Some : goal.returns-in_err-rows-in-Some
returns-in_err-rows-in-Some g c = record { looks_up = hands c.from_residual-in_err-rows-in-Some.ensures.1 (λ _ _ it. inr (_, by_first (AircraftNumber _) c.in-Some.is it.0, it.1)) (behind c.in_ok-found.ensures.looks_up.now (chosen places c.in_err-rows-in-Some.ensures.same_reference (places_of _ c.in_err-rows-in-Some.ensures.reads) c.in_err-rows-in-Some.ensures.reads)) }
