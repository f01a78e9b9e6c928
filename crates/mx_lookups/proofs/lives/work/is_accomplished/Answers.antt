use Rattle.std.proofs.Common.{◌∙◌, ap, refl, sym, inr}
use Rattle.std.specs.Prelude.{is_some}
use Rattle.mx_book.proofs.BaseLemmas.{accomplished-base}
use Rattle.mx_row_rules.proofs.FoundProofs.LifeLemmas.{base_is, no_base}
use Rattle.mx_row_rules.specs.found.Lives.{base_found}
use Rattle.mx_lookups.proofs.LivesProofs.BaseLookups.{base_by_key, bases_in}
use Rattle.mx_lookups.proofs.NumbersProofs.Composed.{answers, behind, chosen_in, by_first, hands, none_given, some_given}
use Rattle.mx_lookups.specs.numbers.Given.{ItemNumber}
use Rattle.mx_lookups.proofs.lives.work.is_accomplished.Goals as goal

pub returns-in_err-rows-in-Some : goal.returns-in_err-rows-in-Some
returns-in_err-rows-in-Some g c = record { looks_up = hands c.from_residual-in_err-rows-in-Some.ensures.1 (λ _ _ it. inr (_, by_first (ItemNumber _) c.in-Some.is it.0, it.1)) (behind c.in_ok-found.ensures.looks_up.now (chosen_in bases_in c.in_err-rows-in-Some.ensures.same_reference (base_by_key c.in-Some.number c.args.id.now _ _ _ c.in_err-rows-in-Some.ensures.reads) c.in_err-rows-in-Some.ensures.reads)) }

pub returns-in_ok-rows-in-Some : goal.returns-in_ok-rows-in-Some
returns-in_ok-rows-in-Some g c = record {
  looks_up =
      let made = c.base_found.ensures.found ∙ ap base_found c.deref.ensures.value in
      answers (behind c.in_ok-found.ensures.looks_up.now (chosen_in bases_in c.in_ok-rows-in-Some.ensures.same_reference (base_by_key c.in-Some.number c.args.id.now _ _ _ c.in_ok-rows-in-Some.ensures.reads) c.in_ok-rows-in-Some.ensures.reads))
      (λ book b both. c.is_some.ensures ∙ ap is_some (made ∙ ap base_found both.1 ∙ base_is book c.args.item.now c.args.id.now c.in-Some.number b (sym both.0 ∙ c.in-Some.is)) ∙ accomplished-base book c.args.item.now c.args.id.now)
      (λ _ both. some_given c.in-Some.is both.0 (_, both.1, c.is_some.ensures ∙ ap is_some made));
}

pub returns-in-None : goal.returns-in-None
returns-in-None g c = record {
  looks_up =
      answers c.in_ok-found.ensures.looks_up.now
      (λ book b found. sym (ap is_some (no_base book c.args.item.now c.args.id.now b (sym found ∙ c.in-None.is))) ∙ accomplished-base book c.args.item.now c.args.id.now)
      (λ _ found. none_given c.in-None.is found refl);
}
