use Rattle.std.proofs.Common.{◌∙◌, ℕ, Option, ap, inl, inr, refl, subst, sym}
use Rattle.std.specs.Option.{option_and_then, option_map}
use Rattle.std.specs.Prelude.{is_some}
use Rattle.mx_book.specs.Span.{fitted}
use Rattle.mx_registers.specs.Names.{tail_at}
use Rattle.mx_base.specs.declared.rows.rows.SpanRow.{SpanRow}
use Rattle.mx_layout.specs.declared.fault.Table.TheVariants as table
use Rattle.mx_lookups.proofs.DamageLemmas.{fitted_unmet}
use Rattle.mx_lookups.proofs.FittedLemmas.{no_place, number_spanned, one_place}
use Rattle.mx_lookups.proofs.NumbersProofs.Composed.{answers, behind, by_first, hands, none_given, refuses, some_given}
use Rattle.mx_lookups.proofs.NumbersProofs.ToldLemmas.{has_none}
use Rattle.mx_lookups.specs.numbers.Given.{SpanFitted, TailOfNumber}
use Rattle.mx_lookups.proofs.spans.place_fitted.Goals as goal

abbrev aircraft_in : Option SpanRow → Option ℕ
aircraft_in = option_map (λ (row : SpanRow). row.aircraft)

pub returns-in-Some-2 : goal.returns-in-Some-2
returns-in-Some-2 g c = record {
  looks_up =
      answers (behind c.in_ok-found.ensures.looks_up c.in_ok-tail-in-Some.ensures.looks_up.now)
      (λ book b both.
      let tail = sym c.in-Some-2.is ∙ both.1 ∙ sym (ap (λ o. option_and_then (tail_at book) (aircraft_in o)) c.in-Some.is) ∙ both.0.number.tail in
      one_place (fitted book c.args.serial.now) c.in-Some-2.tail c.in-Some.row.position tail (sym (ap (option_map (λ (row : SpanRow). row.position)) c.in-Some.is) ∙ both.0.position))
      (λ trees both. some_given c.in-Some.is both.0 (_, subst (TailOfNumber c.in-Some.row.aircraft trees) c.in-Some-2.is both.1, refl));
}

pub returns-in-None : goal.returns-in-None
returns-in-None g c = record { looks_up = answers c.in_ok-found.ensures.looks_up (λ book b found. no_place (fitted book c.args.serial.now) (sym (ap (λ o. option_and_then (tail_at book) (aircraft_in o)) c.in-None.is) ∙ found.number.tail)) (λ _ found. none_given c.in-None.is found refl) }

pub returns-in-None-2 : goal.returns-in-None-2
returns-in-None-2 g c = record {
  looks_up =
      refuses table.Span2 (behind c.in_ok-found.ensures.looks_up c.in_ok-tail-in-Some.ensures.looks_up.now)
      (λ book b both.
      let at = ap aircraft_in c.in-Some.is in
      let tail = sym (ap (option_and_then (tail_at book)) at) ∙ both.0.number.tail in
      let e = ap is_some (sym at) ∙ both.0.number.there ∙ ap is_some (sym tail ∙ sym both.1 ∙ c.in-None-2.is) in
      absurd cc)
      (λ trees both. fitted_unmet trees c.args.serial.now c.in-Some.row.aircraft (number_spanned trees c.args.serial.now _ (by_first (SpanFitted _) c.in-Some.is both.0)) (subst (TailOfNumber c.in-Some.row.aircraft trees) c.in-None-2.is both.1))
      (λ trees both. inr (_, number_spanned trees c.args.serial.now _ (by_first (SpanFitted _) c.in-Some.is both.0), (inr (refl, has_none (λ row. row.tail) (subst (TailOfNumber c.in-Some.row.aircraft trees) c.in-None-2.is both.1)))));
}

pub returns-in_err-tail-in-Some : goal.returns-in_err-tail-in-Some
returns-in_err-tail-in-Some g c = record { looks_up = hands c.from_residual-in_err-tail-in-Some.ensures.1 (λ _ trees it. inr (_, number_spanned trees c.args.serial.now _ (by_first (SpanFitted _) c.in-Some.is it.0), (inl it.1))) (behind c.in_ok-found.ensures.looks_up c.in_err-tail-in-Some.ensures.looks_up.now) }
