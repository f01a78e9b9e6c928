use Rattle.std.proofs.Common.{◌∙◌, inl, inr, Some, ap, ap₂, subst, sym, refl}
use Rattle.std.specs.Option.{option_and_then}
use Rattle.mx_book.specs.due.Due.{due_after}
use Rattle.mx_book.specs.Base.{base}
use Rattle.mx_book.specs.Register.{birth, birth_in}
use Rattle.mx_lookups.proofs.NumbersProofs.ReadLemmas.{reads_then, stopped, told}
use Rattle.mx_apply.specs.made.Releases.{due_by_kind}
use Rattle.mx_apply.proofs.MadeProofs.ReleaseLemmas.{due_known}
use Rattle.mx_lookups.proofs.NumbersProofs.AnyLemmas.{any_so}
use Rattle.mx_apply.proofs.MadeProofs.AnyMadeLemmas.{any_then, due_falls, due_never}
use Rattle.mx_lookups.proofs.NumbersProofs.ToldLemmas.{handed}
use Rattle.mx_apply.specs.made.Damage.{DueDamage}
use Rattle.mx_apply.proofs.MadeProofs.DamageLemmas.{due_based, handed_later}
use Rattle.mx_apply.proofs.made.releases.due_by.Goals as goal

pub returns-in-Some-named-clause-reads : goal.returns-in-Some-named-clause-reads
returns-in-Some-named-clause-reads g c =
    let item = c.args.item.now in
    let id = c.args.id.now in
    let task = c.in-Some-named.task in
    told _ _ _ _ _ _
    (λ book b all.
    c.due_after.ensures ∙ ap₂ (λ last born. due_after last born task) all.1.0 (c.birth_of.ensures ∙ ap birth_in all.0)
    ∙ sym (due_known book c.args.kind.now c.in-Some.kind item id _ c.in-Some.is all.1.1
    ∙ ap (λ o. option_and_then (due_after (base book item id) (birth book item)) (option_and_then (λ t. t) o)) (c.in-Some-known.is ∙ ap Some c.in-Some-named.is)))
    (reads_then _ _ _ _ _ _ _ c.in_ok-found.ensures.reads (reads_then _ _ _ _ _ _ _ c.in_ok-last.ensures.looks_up.reads c.in_ok-known-in-Some.ensures.looks_up.reads))

pub returns-in-None-named-clause-reads : goal.returns-in-None-named-clause-reads
returns-in-None-named-clause-reads g c =
    let item = c.args.item.now in
    let id = c.args.id.now in
    told _ _ _ _ _ _
    (λ book b all.
    sym (due_known book c.args.kind.now c.in-Some.kind item id _ c.in-Some.is all.1.1
    ∙ ap (λ o. option_and_then (due_after (base book item id) (birth book item)) (option_and_then (λ t. t) o)) (c.in-Some-known.is ∙ ap Some c.in-None-named.is)))
    (reads_then _ _ _ _ _ _ _ c.in_ok-found.ensures.reads (reads_then _ _ _ _ _ _ _ c.in_ok-last.ensures.looks_up.reads c.in_ok-known-in-Some.ensures.looks_up.reads))

pub returns-in-None-known-clause-reads : goal.returns-in-None-known-clause-reads
returns-in-None-known-clause-reads g c =
    let item = c.args.item.now in
    let id = c.args.id.now in
    told _ _ _ _ _ _
    (λ book b all.
    sym (due_known book c.args.kind.now c.in-Some.kind item id _ c.in-Some.is all.1.1
    ∙ ap (λ o. option_and_then (due_after (base book item id) (birth book item)) (option_and_then (λ t. t) o)) c.in-None-known.is))
    (reads_then _ _ _ _ _ _ _ c.in_ok-found.ensures.reads (reads_then _ _ _ _ _ _ _ c.in_ok-last.ensures.looks_up.reads c.in_ok-known-in-Some.ensures.looks_up.reads))

pub returns-in-None-clause-reads : goal.returns-in-None-clause-reads
returns-in-None-clause-reads g c =
    told _ _ _ _ _ _ (λ book b all. sym (ap (λ o. due_by_kind book o c.args.item.now c.args.id.now) c.in-None.is))
    (reads_then _ _ _ _ _ _ _ c.in_ok-found.ensures.reads c.in_ok-last.ensures.looks_up.reads)

pub returns-in_err-known-in-Some-clause-reads : goal.returns-in_err-known-in-Some-clause-reads
returns-in_err-known-in-Some-clause-reads g c =
    stopped _ _ _ _ _ _ c.from_residual-in_err-known-in-Some.ensures.1
    (reads_then _ _ _ _ _ _ _ c.in_ok-found.ensures.reads (reads_then _ _ _ _ _ _ _ c.in_ok-last.ensures.looks_up.reads c.in_err-known-in-Some.ensures.looks_up.reads))

pub returns-in-Some-named-clause-any_rows : goal.returns-in-Some-named-clause-any_rows
returns-in-Some-named-clause-any_rows g c =
    let found = c.in_ok-found.found in
    let last = c.in_ok-last.last in
    let later = reads_then _ _ _ _ _ _ _ c.in_ok-last.ensures.looks_up.reads c.in_ok-known-in-Some.ensures.looks_up.reads in
    any_so _ _ _ _ _ _
    (λ trees all. record {
      found = found;
      built = all.0;
      last = last;
      done = all.1.0;
      falls = due_falls trees c.args.kind.now c.in-Some.kind c.args.id.now last found _ c.in_ok-known-in-Some.known c.in-Some.is all.1.1 (c.due_after.ensures ∙ ap (λ born. due_after last born c.in-Some-named.task) c.birth_of.ensures ∙ sym (ap (λ o. option_and_then (due_after last (birth_in found)) (option_and_then (λ t. t) o)) (c.in-Some-known.is ∙ ap Some c.in-Some-named.is)));
    })
    (any_then _ _ _ _ _ _ _ _ c.in_ok-found.ensures.reads c.in_ok-found.ensures.any_rows later.within
    (any_then _ _ _ _ _ _ _ _ c.in_ok-last.ensures.looks_up.reads c.in_ok-last.ensures.looks_up.any_rows c.in_ok-known-in-Some.ensures.looks_up.reads.within c.in_ok-known-in-Some.ensures.looks_up.any_rows))

pub returns-in-None-named-clause-any_rows : goal.returns-in-None-named-clause-any_rows
returns-in-None-named-clause-any_rows g c =
    let found = c.in_ok-found.found in
    let last = c.in_ok-last.last in
    let later = reads_then _ _ _ _ _ _ _ c.in_ok-last.ensures.looks_up.reads c.in_ok-known-in-Some.ensures.looks_up.reads in
    any_so _ _ _ _ _ _
    (λ trees all. record {
      found = found;
      built = all.0;
      last = last;
      done = all.1.0;
      falls = due_falls trees c.args.kind.now c.in-Some.kind c.args.id.now last found _ c.in_ok-known-in-Some.known c.in-Some.is all.1.1 (sym (ap (λ o. option_and_then (due_after last (birth_in found)) (option_and_then (λ t. t) o)) (c.in-Some-known.is ∙ ap Some c.in-None-named.is)));
    })
    (any_then _ _ _ _ _ _ _ _ c.in_ok-found.ensures.reads c.in_ok-found.ensures.any_rows later.within
    (any_then _ _ _ _ _ _ _ _ c.in_ok-last.ensures.looks_up.reads c.in_ok-last.ensures.looks_up.any_rows c.in_ok-known-in-Some.ensures.looks_up.reads.within c.in_ok-known-in-Some.ensures.looks_up.any_rows))

pub returns-in-None-known-clause-any_rows : goal.returns-in-None-known-clause-any_rows
returns-in-None-known-clause-any_rows g c =
    let found = c.in_ok-found.found in
    let last = c.in_ok-last.last in
    let later = reads_then _ _ _ _ _ _ _ c.in_ok-last.ensures.looks_up.reads c.in_ok-known-in-Some.ensures.looks_up.reads in
    any_so _ _ _ _ _ _
    (λ trees all. record {
      found = found;
      built = all.0;
      last = last;
      done = all.1.0;
      falls = due_falls trees c.args.kind.now c.in-Some.kind c.args.id.now last found _ c.in_ok-known-in-Some.known c.in-Some.is all.1.1 (sym (ap (λ o. option_and_then (due_after last (birth_in found)) (option_and_then (λ t. t) o)) (c.in-None-known.is)));
    })
    (any_then _ _ _ _ _ _ _ _ c.in_ok-found.ensures.reads c.in_ok-found.ensures.any_rows later.within
    (any_then _ _ _ _ _ _ _ _ c.in_ok-last.ensures.looks_up.reads c.in_ok-last.ensures.looks_up.any_rows c.in_ok-known-in-Some.ensures.looks_up.reads.within c.in_ok-known-in-Some.ensures.looks_up.any_rows))

pub returns-in-None-clause-any_rows : goal.returns-in-None-clause-any_rows
returns-in-None-clause-any_rows g c =
    any_so _ _ _ _ _ _ (λ trees both. record { found = c.in_ok-found.found; built = both.0; last = c.in_ok-last.last; done = both.1; falls = due_never trees c.args.kind.now c.args.id.now c.in_ok-last.last c.in_ok-found.found _ c.in-None.is refl })
    (any_then _ _ _ _ _ _ _ _ c.in_ok-found.ensures.reads c.in_ok-found.ensures.any_rows c.in_ok-last.ensures.looks_up.reads.within c.in_ok-last.ensures.looks_up.any_rows)

pub returns-in_err-found-clause-damage : goal.returns-in_err-found-clause-damage
returns-in_err-found-clause-damage g c = handed (λ name trees it. due_based c.args.kind.now c.args.item.now c.args.id.now name trees (inl it)) c.from_residual.ensures.1 c.in_err-found.ensures.damage

pub returns-in_err-last-clause-damage : goal.returns-in_err-last-clause-damage
returns-in_err-last-clause-damage g c =
    handed_later (λ name trees it. due_based c.args.kind.now c.args.item.now c.args.id.now name trees it) c.from_residual-in_err-last.ensures.1 c.in_ok-found.ensures.reads c.in_err-last.ensures.looks_up.reads.within c.in_err-last.ensures.looks_up.damage

pub returns-in_err-known-in-Some-clause-damage : goal.returns-in_err-known-in-Some-clause-damage
returns-in_err-known-in-Some-clause-damage g c =
    handed_later (λ name trees it. subst (λ o. DueDamage o c.args.item.now c.args.id.now name trees) (sym c.in-Some.is) (inr it)) c.from_residual-in_err-known-in-Some.ensures.1
    (reads_then _ _ _ _ _ _ _ c.in_ok-found.ensures.reads c.in_ok-last.ensures.looks_up.reads) c.in_err-known-in-Some.ensures.looks_up.reads.within c.in_err-known-in-Some.ensures.looks_up.damage
