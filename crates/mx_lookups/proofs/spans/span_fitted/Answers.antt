use Rattle.std.proofs.Common.{◌∙◌, ap, refl, sym, inr}
use Rattle.std.specs.Option.{option_and_then, option_map}
use Rattle.std.specs.Prelude.{is_some, slice_get}
use Rattle.mx_book.specs.Span.{fitted}
use Rattle.mx_registers.specs.Names.{tail_at}
use Rattle.mx_base.specs.declared.rows.rows.SpanRow.{SpanRow}
use Rattle.mx_row_rules.proofs.FoundProofs.OpenLemmas.{fitted_nowhere, fitted_position, fitted_tail, fitted_there}
use Rattle.mx_lookups.proofs.FittedLemmas.{nowhere}
use Rattle.mx_lookups.proofs.NumbersProofs.BookRows.{open_spans_of}
use Rattle.mx_lookups.proofs.NumbersProofs.Composed.{answers, behind, chosen, by_first, hands, none_given, some_given}
use Rattle.mx_lookups.proofs.NumbersProofs.TableLemmas.{spans}
use Rattle.mx_lookups.specs.numbers.Given.{ComponentNumber}
use Rattle.mx_lookups.proofs.spans.span_fitted.Goals as goal

pub returns-in_ok-rows-in-Some : goal.returns-in_ok-rows-in-Some
returns-in_ok-rows-in-Some g c = record {
  looks_up =
      let made = c.span_in.ensures ∙ ap (λ rows. slice_get rows 0) c.deref.ensures.value in
      answers (behind c.in_ok-found.ensures.looks_up.now (chosen spans c.in_ok-rows-in-Some.ensures.same_reference (open_spans_of _ c.in_ok-rows-in-Some.ensures.reads) c.in_ok-rows-in-Some.ensures.reads))
      (λ book b both.
      let number = sym both.0 ∙ c.in-Some.is in
      let e = made ∙ ap (λ rows. slice_get rows 0) both.1 in
      let at = ap (option_map (λ (row : SpanRow). row.aircraft)) e in
      record {
        number = record { tail = ap (option_and_then (tail_at book)) at ∙ fitted_tail book b c.args.serial.now c.in-Some.number number; there = ap is_some at ∙ fitted_there book b c.args.serial.now c.in-Some.number number };
        position = ap (option_map (λ (row : SpanRow). row.position)) e ∙ fitted_position book b c.args.serial.now c.in-Some.number number;
      })
      (λ _ both. some_given c.in-Some.is both.0 (_, both.1, made));
}

pub returns-in-None : goal.returns-in-None
returns-in-None g c = record { looks_up = answers c.in_ok-found.ensures.looks_up.now (λ book b found. let none = fitted_nowhere book b c.args.serial.now (sym found ∙ c.in-None.is) in record { number = record { tail = sym none; there = ap is_some (sym none) }; position = nowhere (fitted book c.args.serial.now) none }) (λ _ found. none_given c.in-None.is found refl) }

pub returns-in_err-rows-in-Some : goal.returns-in_err-rows-in-Some
returns-in_err-rows-in-Some g c = record { looks_up = hands c.from_residual-in_err-rows-in-Some.ensures.1 (λ _ _ it. inr (_, by_first (ComponentNumber _) c.in-Some.is it.0, it.1)) (behind c.in_ok-found.ensures.looks_up.now (chosen spans c.in_err-rows-in-Some.ensures.same_reference (open_spans_of _ c.in_err-rows-in-Some.ensures.reads) c.in_err-rows-in-Some.ensures.reads)) }
