use Rattle.std.proofs.Common.{◌∙◌, ap, inl, inr, refl, subst, sym}
use Rattle.std.specs.Prelude.{IfSome}
use Rattle.mx_book.specs.due.Due.{IsLife}
use Rattle.mx_layout.specs.declared.fault.Table.TheVariants as table
use Rattle.mx_row_rules.proofs.FoundProofs.BoundLemmas.{base_low}
use Rattle.mx_row_rules.proofs.FoundProofs.LifeLemmas.{base_is, no_base}
use Rattle.mx_row_rules.specs.found.Lives.{base_found, life_in_base}
use Rattle.mx_lookups.proofs.LivesProofs.BaseLookups.{base_by_key, bases_in}
use Rattle.mx_lookups.proofs.LivesProofs.DamageLemmas.{base_past}
use Rattle.mx_lookups.proofs.NumbersProofs.Composed.{answers, behind, chosen_in, by_first, hands, none_given, refuses, some_given}
use Rattle.mx_lookups.specs.numbers.Given.{ItemNumber}
use Rattle.mx_lookups.proofs.lives.work.base.Goals as goal

pub returns-in_err-rows-in-Some-clause-looks_up : goal.returns-in_err-rows-in-Some-clause-looks_up
returns-in_err-rows-in-Some-clause-looks_up g c = hands c.from_residual-in_err-rows-in-Some.ensures.1 (λ _ _ it. inr (_, by_first (ItemNumber _) c.in-Some.is it.0, (inl it.1))) (behind c.in_ok-found.ensures.looks_up.now (chosen_in bases_in c.in_err-rows-in-Some.ensures.same_reference (base_by_key c.in-Some.number c.args.id.now _ _ _ c.in_err-rows-in-Some.ensures.reads) c.in_err-rows-in-Some.ensures.reads))

pub returns-then-is_of_life-clause-looks_up : goal.returns-then-is_of_life-clause-looks_up
returns-then-is_of_life-clause-looks_up g c =
    let made = sym c.in-Some-base_found.is ∙ c.base_found.ensures.found ∙ ap base_found c.deref.ensures.value in
    answers (behind c.in_ok-found.ensures.looks_up.now (chosen_in bases_in c.in_ok-rows-in-Some.ensures.same_reference (base_by_key c.in-Some.number c.args.id.now _ _ _ c.in_ok-rows-in-Some.ensures.reads) c.in_ok-rows-in-Some.ensures.reads)) (λ book b both. made ∙ ap base_found both.1 ∙ base_is book c.args.item.now c.args.id.now c.in-Some.number b (sym both.0 ∙ c.in-Some.is)) (λ _ both. some_given c.in-Some.is both.0 (_, both.1, made))

pub returns-in-Some-base_found-clause-looks_up : goal.returns-in-Some-base_found-clause-looks_up
returns-in-Some-base_found-clause-looks_up g c =
    let made = c.base_found.ensures.found ∙ ap base_found c.deref.ensures.value in
    refuses table.Base2 (behind c.in_ok-found.ensures.looks_up.now (chosen_in bases_in c.in_ok-rows-in-Some.ensures.same_reference (base_by_key c.in-Some.number c.args.id.now _ _ _ c.in_ok-rows-in-Some.ensures.reads) c.in_ok-rows-in-Some.ensures.reads))
    (λ book b both.
    let low = subst (λ o. IfSome o (λ base. IsLife (life_in_base base))) (sym (made ∙ ap base_found both.1 ∙ base_is book c.args.item.now c.args.id.now c.in-Some.number b (sym both.0 ∙ c.in-Some.is)) ∙ c.in-Some-base_found.is) (base_low book b c.args.item.now c.args.id.now) in
    let e = sym c.if-is_of_life.false ∙ c.is_of_life.ensures.1 low in
    absurd cc)
    (λ trees both. base_past _ c.in-Some-base_found.base (λ low. (let e = sym c.if-is_of_life.false ∙ c.is_of_life.ensures.1 low in absurd cc)) (_, both.1, sym c.in-Some-base_found.is ∙ made))
    (λ trees both. inr (_, by_first (ItemNumber _) c.in-Some.is both.0, (inr (refl, (c.in-Some-base_found.base, (_, both.1, sym c.in-Some-base_found.is ∙ made), (λ low. (let e = sym c.if-is_of_life.false ∙ c.is_of_life.ensures.1 low in absurd cc)))))))

pub returns-in-Some-clause-looks_up : goal.returns-in-Some-clause-looks_up
returns-in-Some-clause-looks_up g c =
    let made = sym c.in-None-base_found.is ∙ c.base_found.ensures.found ∙ ap base_found c.deref.ensures.value in
    answers (behind c.in_ok-found.ensures.looks_up.now (chosen_in bases_in c.in_ok-rows-in-Some.ensures.same_reference (base_by_key c.in-Some.number c.args.id.now _ _ _ c.in_ok-rows-in-Some.ensures.reads) c.in_ok-rows-in-Some.ensures.reads)) (λ book b both. made ∙ ap base_found both.1 ∙ base_is book c.args.item.now c.args.id.now c.in-Some.number b (sym both.0 ∙ c.in-Some.is)) (λ _ both. some_given c.in-Some.is both.0 (_, both.1, made))

pub returns-clause-looks_up : goal.returns-clause-looks_up
returns-clause-looks_up g c = answers c.in_ok-found.ensures.looks_up.now (λ book b found. sym (no_base book c.args.item.now c.args.id.now b (sym found ∙ c.in-None.is))) (λ _ found. none_given c.in-None.is found refl)
