use Rattle.std.proofs.Common.{◌∙◌, inl, inr, None, ap, refl, subst, sym}
use Rattle.std.specs.Prelude.{IfSome}
use Rattle.mx_book.specs.due.Due.{IsLife}
use Rattle.mx_book.specs.Life.{use_or_none}
use Rattle.mx_book.proofs.LifeLemmas.{life_in_bounds}
use Rattle.mx_layout.specs.declared.fault.Table.TheVariants as table
use Rattle.mx_lookups.proofs.NumbersProofs.ReadLemmas.{refused, told}
use Rattle.mx_apply.proofs.MadeProofs.ReleaseLemmas.{life_past}
use Rattle.mx_lookups.proofs.NumbersProofs.AnyLemmas.{any_so}
use Rattle.mx_lookups.specs.numbers.Given.{LifeOf}
use Rattle.mx_lookups.proofs.NumbersProofs.ToldLemmas.{handed, told_here}
use Rattle.mx_apply.proofs.made.releases.life_reached.Goals as goal

pub returns-then-is_life-clause-reads : goal.returns-then-is_life-clause-reads
returns-then-is_life-clause-reads g c = told _ _ _ _ _ _ (λ book b found. ap use_or_none (sym c.in-Some.is ∙ found)) c.in_ok-found.ensures.looks_up.reads

pub returns-else-is_life-clause-reads : goal.returns-else-is_life-clause-reads
returns-else-is_life-clause-reads g c =
    let past : IsLife c.in-Some.reached → ⊥ = λ low. (let e = sym c.if-is_life.false ∙ c.is_life.ensures.1 low in absurd cc) in
    let found = c.in_ok-found.ensures.looks_up in
    refused _ _ _ _ _ table.Total2
    (λ book b is. past (subst (λ o. IfSome o IsLife) c.in-Some.is (life_in_bounds book c.args.item.now None _ b is)))
    (λ clean has. life_past _ c.args.item.now c.in_ok-found.found c.in-Some.reached c.in-Some.is past (found.any_rows.found clean has))
    found.reads

pub returns-in-None-clause-reads : goal.returns-in-None-clause-reads
returns-in-None-clause-reads g c = told _ _ _ _ _ _ (λ book b found. ap use_or_none (sym c.in-None.is ∙ found)) c.in_ok-found.ensures.looks_up.reads

pub returns-then-is_life-clause-any_rows : goal.returns-then-is_life-clause-any_rows
returns-then-is_life-clause-any_rows g c = any_so _ _ _ _ _ _ (λ trees of. (c.in_ok-found.found, of, sym (ap use_or_none c.in-Some.is))) c.in_ok-found.ensures.looks_up.any_rows

pub returns-in-None-clause-any_rows : goal.returns-in-None-clause-any_rows
returns-in-None-clause-any_rows g c = any_so _ _ _ _ _ _ (λ trees of. (c.in_ok-found.found, of, sym (ap use_or_none c.in-None.is))) c.in_ok-found.ensures.looks_up.any_rows

pub returns-in_err-found-clause-damage : goal.returns-in_err-found-clause-damage
returns-in_err-found-clause-damage g c = handed (λ _ _. inl) c.from_residual.ensures.1 c.in_err-found.ensures.looks_up.damage

pub returns-else-is_life-clause-damage : goal.returns-else-is_life-clause-damage
returns-else-is_life-clause-damage g c =
    let past : IsLife c.in-Some.reached → ⊥ = λ low. (let e = sym c.if-is_life.false ∙ c.is_life.ensures.1 low in absurd cc) in
    told_here table.Total2 (λ clean has. inr (refl, (c.in-Some.reached, subst (LifeOf c.args.item.now _) c.in-Some.is (c.in_ok-found.ensures.looks_up.any_rows.found clean has), past)))
