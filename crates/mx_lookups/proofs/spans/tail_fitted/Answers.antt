use Rattle.std.proofs.Common.{◌∙◌, ℕ, List, ap, subst, sym}
use Rattle.std.specs.Option.{option_map}
use Rattle.mx_book.specs.Span.{fitted}
use Rattle.mx_lookups.proofs.FittedLemmas.{tail_in_place, tail_placed}
use Rattle.mx_lookups.proofs.NumbersProofs.Composed.{answers}
use Rattle.mx_lookups.specs.numbers.Given.{TailFitted}
use Rattle.mx_lookups.proofs.spans.tail_fitted.Goals as goal

pub returns-in-Some : goal.returns-in-Some
returns-in-Some g c = record {
  looks_up =
      let tail = ap (option_map (λ (p : List ℕ × List ℕ). p.0)) c.in-Some.is in
      answers c.in_ok-found.ensures.looks_up (λ book b found. sym tail ∙ ap (option_map (λ (p : List ℕ × List ℕ). p.0)) found ∙ tail_in_place (fitted book c.args.serial.now))
      (λ trees found. subst (TailFitted c.args.serial.now trees) tail (tail_placed trees c.args.serial.now _ found));
}

pub returns-in-None : goal.returns-in-None
returns-in-None g c = record {
  looks_up =
      let tail = ap (option_map (λ (p : List ℕ × List ℕ). p.0)) c.in-None.is in
      answers c.in_ok-found.ensures.looks_up (λ book b found. sym tail ∙ ap (option_map (λ (p : List ℕ × List ℕ). p.0)) found ∙ tail_in_place (fitted book c.args.serial.now))
      (λ trees found. subst (TailFitted c.args.serial.now trees) tail (tail_placed trees c.args.serial.now _ found));
}
