use Rattle.std.proofs.Common.{◌∙◌, ap, inl, inr, refl, subst, sym}
use Rattle.std.specs.Prelude.{is_some}
use Rattle.mx_layout.specs.declared.fault.Table.TheVariants as table
use Rattle.mx_row_rules.proofs.FoundProofs.LifeLemmas.{alive, life_found, no_life}
use Rattle.mx_row_rules.specs.found.Lives.{life_in}
use Rattle.mx_lookups.proofs.LivesProofs.DamageLemmas.{total_unmet}
use Rattle.mx_lookups.proofs.NumbersProofs.BookRows.{totals_of}
use Rattle.mx_lookups.proofs.NumbersProofs.Composed.{answers, behind, chosen, by_first, hands, none_given, refuses, some_given}
use Rattle.mx_lookups.proofs.NumbersProofs.TableLemmas.{totals}
use Rattle.mx_lookups.proofs.NumbersProofs.ToldLemmas.{has_none}
use Rattle.mx_lookups.specs.numbers.Given.{ItemNumber}
use Rattle.mx_lookups.proofs.lives.lives.life.Goals as goal

pub returns-in-Some-life_in : goal.returns-in-Some-life_in
returns-in-Some-life_in g c = record {
  looks_up =
      let made = c.life_in.ensures ∙ ap life_in c.deref.ensures.value in
      answers (behind c.in_ok-found.ensures.looks_up.now (chosen totals c.in_ok-rows-in-Some.ensures.same_reference (totals_of _ c.in_ok-rows-in-Some.ensures.reads) c.in_ok-rows-in-Some.ensures.reads))
      (λ book b both. sym c.in-Some-life_in.is ∙ made ∙ ap life_in both.1 ∙ life_found book c.args.item.now c.in-Some.number b (sym both.0 ∙ c.in-Some.is))
      (λ _ both. some_given c.in-Some.is both.0 (refl, (_, both.1, sym c.in-Some-life_in.is ∙ made)));
}

pub returns-in-Some : goal.returns-in-Some
returns-in-Some g c = record {
  looks_up =
      let made = c.life_in.ensures ∙ ap life_in c.deref.ensures.value in
      refuses table.Total2 (behind c.in_ok-found.ensures.looks_up.now (chosen totals c.in_ok-rows-in-Some.ensures.same_reference (totals_of _ c.in_ok-rows-in-Some.ensures.reads) c.in_ok-rows-in-Some.ensures.reads))
      (λ book b both.
      let number = sym both.0 ∙ c.in-Some.is in
      let e = ap is_some (sym c.in-None-life_in.is ∙ made ∙ ap life_in both.1 ∙ life_found book c.args.item.now c.in-Some.number b number) ∙ alive book c.args.item.now c.in-Some.number number in
      absurd cc)
      (λ trees both. total_unmet _ _ c.in-Some.number (λ row. row.life) (subst (ItemNumber c.args.item.now trees) c.in-Some.is both.0) (_, both.1, sym c.in-None-life_in.is ∙ made))
      (λ trees both. inr (_, by_first (ItemNumber _) c.in-Some.is both.0, (inr (refl, has_none (λ row. row.life) (_, both.1, sym c.in-None-life_in.is ∙ made)))));
}

pub returns : goal.returns
returns g c = record { looks_up = answers c.in_ok-found.ensures.looks_up.now (λ book b found. sym (no_life book c.args.item.now (sym found ∙ c.in-None.is))) (λ _ found. none_given c.in-None.is found refl) }

pub returns-in_err-rows-in-Some : goal.returns-in_err-rows-in-Some
returns-in_err-rows-in-Some g c = record { looks_up = hands c.from_residual-in_err-rows-in-Some.ensures.1 (λ _ _ it. inr (_, by_first (ItemNumber _) c.in-Some.is it.0, (inl it.1))) (behind c.in_ok-found.ensures.looks_up.now (chosen totals c.in_err-rows-in-Some.ensures.same_reference (totals_of _ c.in_err-rows-in-Some.ensures.reads) c.in_err-rows-in-Some.ensures.reads)) }
