use Rattle.std.proofs.Common.{◌∙◌, ap, subst}
use Rattle.mx_registers.specs.kept.Items.{number_of_item}
use Rattle.mx_book.specs.Register.{found_of}
use Rattle.mx_lookups.proofs.NumbersProofs.ReadLemmas.{reads_then, told}
use Rattle.mx_lookups.proofs.NumbersProofs.AnyLemmas.{any_so}
use Rattle.mx_apply.specs.made.Found.{ItemFound, NumberBy}
use Rattle.mx_apply.proofs.MadeProofs.AnyMadeLemmas.{any_then}
use Rattle.mx_lookups.specs.numbers.Given.{ItemNumber}
use Rattle.mx_lookups.specs.numbers.Told.{ItemDamage}
use Rattle.mx_lookups.proofs.NumbersProofs.ToldLemmas.{handed}
use Rattle.mx_apply.proofs.MadeProofs.DamageLemmas.{handed_later}
use Rattle.mx_apply.proofs.made.releases.place_found.Goals as goal

pub returns-clause-reads : goal.returns-clause-reads
returns-clause-reads g c =
    told _ _ _ _ _ _
    (λ book b both. (both.0 ∙ ap (number_of_item book) c.item_of_place-item.ensures, c.kind_of_place.ensures book (both.1 ∙ ap (found_of book) c.item_of_place-item.ensures)))
    (reads_then _ _ _ _ _ _ _ c.in_ok-number.ensures.reads c.in_ok-found.ensures.reads)

pub returns-clause-any_rows : goal.returns-clause-any_rows
returns-clause-any_rows g c =
    let item = c.item_of_place-item.ensures in
    let found = c.in_ok-found.found in
    any_so _ _ _ _ _ _
    (λ trees both. (subst (λ i. NumberBy (ItemNumber i) trees c.in_ok-number.number) item both.0, (found, subst (λ i. ItemFound i trees found) item both.1, λ book is. c.kind_of_place.ensures book is)))
    (any_then _ _ _ _ _ _ _ _ c.in_ok-number.ensures.reads c.in_ok-number.ensures.any_rows c.in_ok-found.ensures.reads.within c.in_ok-found.ensures.any_rows)

pub returns-in_err-number-clause-damage : goal.returns-in_err-number-clause-damage
returns-in_err-number-clause-damage g c = handed (λ name trees it. subst (λ i. ItemDamage i name trees) c.item_of_place-item.ensures it) c.from_residual.ensures.1 c.in_err-number.ensures.damage

pub returns-in_err-found-clause-damage : goal.returns-in_err-found-clause-damage
returns-in_err-found-clause-damage g c =
    handed_later (λ name trees it. subst (λ i. ItemDamage i name trees) c.item_of_place-item.ensures it) c.from_residual-in_err-found.ensures.1 c.in_ok-number.ensures.reads c.in_err-found.ensures.reads.within c.in_err-found.ensures.damage
