use Rattle.std.proofs.Common.{◌∙◌, sym, inr}
use Rattle.mx_row_rules.proofs.FoundProofs.OpenDefectLemmas.{none_open}
use Rattle.mx_lookups.proofs.LaterLemmas.{open_by_found}
use Rattle.mx_lookups.proofs.NumbersProofs.Composed.{answers, behind, by_first, implies, none_given, some_given}
use Rattle.mx_lookups.specs.numbers.Given.{AircraftNumber}
use Rattle.mx_lookups.proofs.later_defects.open_defects.Goals as goal

pub returns-in-Some : goal.returns-in-Some
returns-in-Some g c = record {
  looks_up =
      implies c.defects_left.result
      (λ book v b both. both.1 ∙ open_by_found book c.args.tail.now c.in-Some.number b (sym both.0 ∙ c.in-Some.is))
      (λ _ v both. some_given c.in-Some.is both.0 both.1)
      (λ _ _ it. inr (_, by_first (AircraftNumber _) c.in-Some.is it.0, it.1))
      (behind c.in_ok-found.ensures.looks_up.later c.defects_left.ensures.looks_up);
}

pub returns-in-None : goal.returns-in-None
returns-in-None g c = record { looks_up = answers c.in_ok-found.ensures.looks_up.later (λ book b found. c.new.ensures.items ∙ sym (none_open book c.args.tail.now b (sym found ∙ c.in-None.is))) (λ _ found. none_given c.in-None.is found c.new.ensures.items) }
