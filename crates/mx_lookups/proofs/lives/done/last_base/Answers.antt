use Rattle.std.proofs.Common.{◌∙◌, ap, inl, inr, refl, subst, sym}
use Rattle.std.specs.Prelude.{IfSome}
use Rattle.mx_base.specs.rows.Rows.{FitsBaseValue}
use Rattle.mx_book.specs.due.Due.{IsLife}
use Rattle.mx_registers.specs.late.Done.{last_base}
use Rattle.mx_registers.proofs.LateProofs.DoneLate.{last_base_done}
use Rattle.mx_layout.specs.declared.fault.Table.TheVariants as table
use Rattle.mx_row_rules.proofs.FoundProofs.BoundLemmas.{base_low}
use Rattle.mx_row_rules.proofs.FoundProofs.LifeLemmas.{no_base}
use Rattle.mx_row_rules.proofs.FoundProofs.ThereLemmas.{item_numbered}
use Rattle.mx_row_rules.specs.found.Lives.{life_in_base}
use Rattle.mx_lookups.proofs.LaterLemmas.{done_past, last_base_fits}
use Rattle.mx_lookups.proofs.LivesProofs.DoneLookups.{done_by_task}
use Rattle.mx_lookups.proofs.NumbersProofs.Composed.{answers, behind, by_first, chosen_in, hands, none_given, refuses, some_given}
use Rattle.mx_lookups.proofs.NumbersProofs.LaterTables.{done_in}
use Rattle.mx_lookups.specs.numbers.Given.{ItemNumber}
use Rattle.mx_lookups.proofs.lives.done.last_base.Goals as goal

pub returns-in_err-rows-in-Some-clause-looks_up : goal.returns-in_err-rows-in-Some-clause-looks_up
returns-in_err-rows-in-Some-clause-looks_up g c = hands c.from_residual-in_err-rows-in-Some.ensures.1 (λ _ _ it. inr (_, by_first (ItemNumber _) c.in-Some.is it.0, (inl it.1))) (behind c.in_ok-found.ensures.looks_up.later (chosen_in done_in c.in_err-rows-in-Some.ensures.same_reference (done_by_task c.in-Some.number c.args.id.now _ _ _ c.in_err-rows-in-Some.ensures.reads) c.in_err-rows-in-Some.ensures.reads))

pub returns-then-is_of_life-clause-looks_up : goal.returns-then-is_of_life-clause-looks_up
returns-then-is_of_life-clause-looks_up g c =
    let item = c.args.item.now in
    let id = c.args.id.now in
    let made = sym c.in-Some-last_in.is ∙ c.last_in.ensures ∙ ap last_base c.deref.ensures.value in
    answers (behind c.in_ok-found.ensures.looks_up.later (chosen_in done_in c.in_ok-rows-in-Some.ensures.same_reference (done_by_task c.in-Some.number id _ _ _ c.in_ok-rows-in-Some.ensures.reads) c.in_ok-rows-in-Some.ensures.reads))
    (λ book b both. made ∙ ap last_base (both.1 item (item_numbered book item c.in-Some.number (sym both.0 ∙ c.in-Some.is))) ∙ last_base_done book c.in-Some.number item id)
    (λ _ both. some_given c.in-Some.is both.0 (_, both.1, made))

pub returns-then-is_of_life-clause-bounded : goal.returns-then-is_of_life-clause-bounded
returns-then-is_of_life-clause-bounded g c =
    let made = sym c.in-Some-last_in.is ∙ c.last_in.ensures ∙ ap last_base c.deref.ensures.value in
    let low = c.is_of_life.ensures.0 c.if-is_of_life.true in
    let fits = subst (λ o. IfSome o FitsBaseValue) (sym made) (last_base_fits _ c.in_ok-rows-in-Some.ensures.reads.fits) in
    record { minutes = low.minutes; cycles = low.cycles; day = fits.day }

pub returns-in-Some-last_in-clause-looks_up : goal.returns-in-Some-last_in-clause-looks_up
returns-in-Some-last_in-clause-looks_up g c =
    let item = c.args.item.now in
    let id = c.args.id.now in
    let made = sym c.in-Some-last_in.is ∙ c.last_in.ensures ∙ ap last_base c.deref.ensures.value in
    let past : ¬ IsLife (life_in_base c.in-Some-last_in.base) = λ low. (let e = sym c.if-is_of_life.false ∙ c.is_of_life.ensures.1 low in absurd cc) in
    refuses table.Done3 (behind c.in_ok-found.ensures.looks_up.later (chosen_in done_in c.in_ok-rows-in-Some.ensures.same_reference (done_by_task c.in-Some.number id _ _ _ c.in_ok-rows-in-Some.ensures.reads) c.in_ok-rows-in-Some.ensures.reads))
    (λ book b both.
    let known = made ∙ ap last_base (both.1 item (item_numbered book item c.in-Some.number (sym both.0 ∙ c.in-Some.is))) ∙ last_base_done book c.in-Some.number item id in
    past (subst (λ o. IfSome o (λ base. IsLife (life_in_base base))) (sym known) (base_low book b item id)))
    (λ trees both. done_past _ c.in-Some-last_in.base past (_, both.1, made))
    (λ trees both. inr (_, by_first (ItemNumber _) c.in-Some.is both.0, (inr (refl, (c.in-Some-last_in.base, (_, both.1, made), past)))))

pub returns-in-Some-clause-looks_up : goal.returns-in-Some-clause-looks_up
returns-in-Some-clause-looks_up g c =
    let item = c.args.item.now in
    let id = c.args.id.now in
    let made = sym c.in-None-last_in.is ∙ c.last_in.ensures ∙ ap last_base c.deref.ensures.value in
    answers (behind c.in_ok-found.ensures.looks_up.later (chosen_in done_in c.in_ok-rows-in-Some.ensures.same_reference (done_by_task c.in-Some.number id _ _ _ c.in_ok-rows-in-Some.ensures.reads) c.in_ok-rows-in-Some.ensures.reads))
    (λ book b both. made ∙ ap last_base (both.1 item (item_numbered book item c.in-Some.number (sym both.0 ∙ c.in-Some.is))) ∙ last_base_done book c.in-Some.number item id)
    (λ _ both. some_given c.in-Some.is both.0 (_, both.1, made))

pub returns-clause-looks_up : goal.returns-clause-looks_up
returns-clause-looks_up g c = answers c.in_ok-found.ensures.looks_up.later (λ book b found. sym (no_base book c.args.item.now c.args.id.now b (sym found ∙ c.in-None.is))) (λ _ found. none_given c.in-None.is found refl)
