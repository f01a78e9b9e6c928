use Rattle.std.proofs.Common.{◌∙◌, ap, refl, sym, inr}
use Rattle.mx_row_rules.proofs.FoundProofs.OpenLemmas.{taken_by_none, taken_is}
use Rattle.mx_row_rules.specs.found.Spans.{is_taken_in}
use Rattle.mx_lookups.proofs.NumbersProofs.BookRows.{open_spans_at}
use Rattle.mx_lookups.proofs.NumbersProofs.Composed.{answers, behind, chosen, by_first, hands, none_given, some_given}
use Rattle.mx_lookups.proofs.NumbersProofs.TableLemmas.{spans}
use Rattle.mx_lookups.specs.numbers.Given.{AircraftNumber}
use Rattle.mx_lookups.proofs.spans.is_taken.Goals as goal

pub returns-in_ok-rows-in-Some : goal.returns-in_ok-rows-in-Some
returns-in_ok-rows-in-Some g c = record {
  looks_up =
      let made = c.is_taken_in.ensures ∙ ap (is_taken_in c.args.position.now) c.deref.ensures.value in
      answers (behind c.in_ok-found.ensures.looks_up.now (chosen spans c.in_ok-rows-in-Some.ensures.same_reference (open_spans_at _ c.in_ok-rows-in-Some.ensures.reads) c.in_ok-rows-in-Some.ensures.reads))
      (λ book b both. made ∙ ap (is_taken_in c.args.position.now) both.1 ∙ taken_is c.args.tail.now c.args.position.now c.in-Some.number book b (sym both.0 ∙ c.in-Some.is))
      (λ _ both. some_given c.in-Some.is both.0 (_, both.1, made));
}

pub returns-in-None : goal.returns-in-None
returns-in-None g c = record { looks_up = answers c.in_ok-found.ensures.looks_up.now (λ book b found. sym (taken_by_none book c.args.tail.now c.args.position.now b (sym found ∙ c.in-None.is))) (λ _ found. none_given c.in-None.is found refl) }

pub returns-in_err-rows-in-Some : goal.returns-in_err-rows-in-Some
returns-in_err-rows-in-Some g c = record { looks_up = hands c.from_residual-in_err-rows-in-Some.ensures.1 (λ _ _ it. inr (_, by_first (AircraftNumber _) c.in-Some.is it.0, it.1)) (behind c.in_ok-found.ensures.looks_up.now (chosen spans c.in_err-rows-in-Some.ensures.same_reference (open_spans_at _ c.in_err-rows-in-Some.ensures.reads) c.in_err-rows-in-Some.ensures.reads)) }
