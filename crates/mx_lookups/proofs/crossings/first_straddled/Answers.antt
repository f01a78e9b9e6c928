use Rattle.std.proofs.Common.{◌∙◌, ap₂, inl, inr, refl, sym}
use Rattle.mx_registers.specs.late.Crossings.{sooner}
use Rattle.mx_row_rules.proofs.FoundProofs.CrossingLemmas.{no_straddle, straddle_found}
use Rattle.mx_lookups.proofs.NumbersProofs.Composed.{answers, at_point, at_points, behind, by_first, hands, none_given, some_given}
use Rattle.mx_lookups.specs.numbers.Crossings.{LateNumber}
use Rattle.mx_lookups.proofs.crossings.first_straddled.Goals as goal

pub returns-in_ok-released-in-Some : goal.returns-in_ok-released-in-Some
returns-in_ok-released-in-Some g c = record {
  looks_up =
      at_points (λ at is.
      let s = c.args.sector.now in
      answers (behind (at_point c.in_ok-late.ensures.looks_up is) (behind (at_point c.in_ok-moved-in-Some.ensures.looks_up is) (at_point c.in_ok-released-in-Some.ensures.looks_up is)))
      (λ book b all. c.sooner.ensures ∙ ap₂ sooner all.1.0 all.1.1 ∙ straddle_found book s c.in-Some.number b (sym all.0 ∙ c.in-Some.is))
      (λ _ all. some_given c.in-Some.is all.0 (_, _, all.1.0, all.1.1, c.sooner.ensures)));
}

pub returns-in-None : goal.returns-in-None
returns-in-None g c = record { looks_up = at_points (λ at is. answers (at_point c.in_ok-late.ensures.looks_up is) (λ book b late. sym (no_straddle book c.args.sector.now b (sym late ∙ c.in-None.is))) (λ _ late. none_given c.in-None.is late refl)) }

pub returns-in_err-moved-in-Some : goal.returns-in_err-moved-in-Some
returns-in_err-moved-in-Some g c = record {
  looks_up =
      at_points (λ at is. hands c.from_residual-in_err-moved-in-Some.ensures.1 (λ _ _ it. inr (_, by_first (LateNumber c.args.sector.now) c.in-Some.is it.0, (inl it.1)))
      (behind (at_point c.in_ok-late.ensures.looks_up is) (at_point c.in_err-moved-in-Some.ensures.looks_up is)));
}

pub returns-in_err-released-in-Some : goal.returns-in_err-released-in-Some
returns-in_err-released-in-Some g c = record {
  looks_up =
      at_points (λ at is. hands c.from_residual-in_err-released-in-Some.ensures.1 (λ _ _ it. inr (_, by_first (LateNumber c.args.sector.now) c.in-Some.is it.0, (inr it.1.1)))
      (behind (at_point c.in_ok-late.ensures.looks_up is) (behind (at_point c.in_ok-moved-in-Some.ensures.looks_up is) (at_point c.in_err-released-in-Some.ensures.looks_up is))));
}

pub returns-in_err-late : goal.returns-in_err-late
returns-in_err-late g c = record { looks_up = at_points (λ at is. hands c.from_residual.ensures.1 (λ _ _. inl) (at_point c.in_err-late.ensures.looks_up is)) }
