use Rattle.std.proofs.Common.{◌∙◌, ◌++◌, [], ◌∷◌, All, ap, subst, sym, append-nil}
use Rattle.std.specs.List.{cons_option}
use Rattle.std.specs.Prelude.{IfSome}
use Rattle.std.proofs.lemmas.List.Elements.{All-append, All-cons, All-nil}
use Rattle.mx_row_rules.specs.changes.Kept.{HasLife}
use Rattle.mx_lookups.proofs.NumbersProofs.ReadLemmas.{told}
use Rattle.mx_lookups.proofs.NumbersProofs.AnyLemmas.{any_so}
use Rattle.mx_apply.proofs.made.totals.push_total.Goals as goal

pub returns-in_ok-push-in-Some-clause-reads : goal.returns-in_ok-push-in-Some-clause-reads
returns-in_ok-push-in-Some-clause-reads g c =
    told _ _ _ _ _ _ (λ book b is. c.in_ok-push-in-Some.ensures.items ∙ ap (λ o. c.args.totals.now.items ++ cons_option o []) (sym c.in-Some.is ∙ is)) c.in_ok-found.ensures.reads

pub returns-in_ok-push-in-Some-clause-lives : goal.returns-in_ok-push-in-Some-clause-lives
returns-in_ok-push-in-Some-clause-lives g c =
    λ had.
    subst (All HasLife) (sym c.in_ok-push-in-Some.ensures.items)
    (All-append HasLife c.args.totals.now.items (c.in-Some.row ∷ []) had (All-cons HasLife c.in-Some.row [] (subst (λ o. IfSome o HasLife) c.in-Some.is c.in_ok-found.ensures.life) (All-nil HasLife)))

pub returns-in-None-clause-reads : goal.returns-in-None-clause-reads
returns-in-None-clause-reads g c =
    told _ _ _ _ _ _ (λ book b is. sym (append-nil c.args.totals.now.items) ∙ ap (λ o. c.args.totals.now.items ++ cons_option o []) (sym c.in-None.is ∙ is)) c.in_ok-found.ensures.reads

pub returns-in_ok-push-in-Some-clause-any_rows : goal.returns-in_ok-push-in-Some-clause-any_rows
returns-in_ok-push-in-Some-clause-any_rows g c =
    any_so _ _ _ _ _ _ (λ trees of. (c.in_ok-found.found, of, c.in_ok-push-in-Some.ensures.items ∙ ap (λ o. c.args.totals.now.items ++ cons_option o []) (sym c.in-Some.is))) c.in_ok-found.ensures.any_rows

pub returns-in-None-clause-any_rows : goal.returns-in-None-clause-any_rows
returns-in-None-clause-any_rows g c =
    any_so _ _ _ _ _ _ (λ trees of. (c.in_ok-found.found, of, sym (append-nil c.args.totals.now.items) ∙ ap (λ o. c.args.totals.now.items ++ cons_option o []) (sym c.in-None.is))) c.in_ok-found.ensures.any_rows
