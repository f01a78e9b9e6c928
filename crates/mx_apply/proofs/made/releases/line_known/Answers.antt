use Rattle.std.proofs.Common.{◌∙◌, inl, inr, ap, subst, sym, refl}
use Rattle.mx_row_rules.specs.changes.Certified.{IsKnownOf}
use Rattle.mx_row_rules.specs.declared.changes.releases.Certified.TheVariants as certified
use Rattle.mx_lookups.proofs.NumbersProofs.ReadLemmas.{reads_then, told}
use Rattle.mx_apply.specs.made.Releases.{due_by_kind}
use Rattle.mx_lookups.proofs.NumbersProofs.AnyLemmas.{any_so}
use Rattle.mx_apply.specs.made.Found.{IsLineFound}
use Rattle.mx_apply.proofs.MadeProofs.AnyMadeLemmas.{any_then}
use Rattle.mx_lookups.proofs.NumbersProofs.ToldLemmas.{handed}
use Rattle.mx_apply.specs.made.Damage.{LineKnownDamage}
use Rattle.mx_apply.proofs.MadeProofs.DamageLemmas.{handed_later}
use Rattle.mx_apply.proofs.made.releases.line_known.Goals as goal

pub returns-in_ok-due-in-Done-clause-reads : goal.returns-in_ok-due-in-Done-clause-reads
returns-in_ok-due-in-Done-clause-reads g c =
    told _ _ _ _ _ _
    (λ book b all at.
    subst (λ line. IsKnownOf book c.args.release.now line (certified.Done c.in_ok-number-in-Done.number c.in-Done.id c.in_ok-reached-in-Done.reached c.in_ok-due-in-Done.due)) (sym c.in-Done.is) (all.0, refl, all.1.0, all.1.1 ∙ ap (λ k. due_by_kind book k c.in-Done.item c.in-Done.id) at))
    (reads_then _ _ _ _ _ _ _ c.in_ok-number-in-Done.ensures.reads (reads_then _ _ _ _ _ _ _ c.in_ok-reached-in-Done.ensures.reads c.in_ok-due-in-Done.ensures.reads))

pub returns-in_ok-number-in-Rectified-clause-reads : goal.returns-in_ok-number-in-Rectified-clause-reads
returns-in_ok-number-in-Rectified-clause-reads g c =
    told _ _ _ _ _ _ (λ book b is at. subst (λ line. IsKnownOf book c.args.release.now line (certified.Rectified c.in_ok-number-in-Rectified.number)) (sym c.in-Rectified.is) is) c.in_ok-number-in-Rectified.ensures.reads

pub returns-in_ok-due-in-Done-clause-any_rows : goal.returns-in_ok-due-in-Done-clause-any_rows
returns-in_ok-due-in-Done-clause-any_rows g c =
    let later = reads_then _ _ _ _ _ _ _ c.in_ok-reached-in-Done.ensures.reads c.in_ok-due-in-Done.ensures.reads in
    let known = certified.Done c.in_ok-number-in-Done.number c.in-Done.id c.in_ok-reached-in-Done.reached c.in_ok-due-in-Done.due in
    any_so _ _ _ _ _ _
    (λ trees all. subst (λ line. IsLineFound c.args.kind.now trees line known) (sym c.in-Done.is) (all.0, refl, all.1.0, all.1.1))
    (any_then _ _ _ _ _ _ _ _ c.in_ok-number-in-Done.ensures.reads c.in_ok-number-in-Done.ensures.any_rows later.within
    (any_then _ _ _ _ _ _ _ _ c.in_ok-reached-in-Done.ensures.reads c.in_ok-reached-in-Done.ensures.any_rows c.in_ok-due-in-Done.ensures.reads.within c.in_ok-due-in-Done.ensures.any_rows))

pub returns-in_ok-number-in-Rectified-clause-any_rows : goal.returns-in_ok-number-in-Rectified-clause-any_rows
returns-in_ok-number-in-Rectified-clause-any_rows g c =
    any_so _ _ _ _ _ _ (λ trees by. subst (λ line. IsLineFound c.args.kind.now trees line (certified.Rectified c.in_ok-number-in-Rectified.number)) (sym c.in-Rectified.is) by) c.in_ok-number-in-Rectified.ensures.any_rows

pub returns-in_err-number-in-Done-clause-damage : goal.returns-in_err-number-in-Done-clause-damage
returns-in_err-number-in-Done-clause-damage g c = handed (λ name trees it. subst (λ l. LineKnownDamage c.args.kind.now l name trees) (sym c.in-Done.is) (inl (inl (inl it)))) c.from_residual.ensures.1 c.in_err-number-in-Done.ensures.damage

pub returns-in_err-reached-in-Done-clause-damage : goal.returns-in_err-reached-in-Done-clause-damage
returns-in_err-reached-in-Done-clause-damage g c =
    handed_later (λ name trees it. subst (λ l. LineKnownDamage c.args.kind.now l name trees) (sym c.in-Done.is) (inl it)) c.from_residual-in_err-reached-in-Done.ensures.1 c.in_ok-number-in-Done.ensures.reads c.in_err-reached-in-Done.ensures.reads.within c.in_err-reached-in-Done.ensures.damage

pub returns-in_err-due-in-Done-clause-damage : goal.returns-in_err-due-in-Done-clause-damage
returns-in_err-due-in-Done-clause-damage g c =
    handed_later (λ name trees it. subst (λ l. LineKnownDamage c.args.kind.now l name trees) (sym c.in-Done.is) (inr it)) c.from_residual-in_err-due-in-Done.ensures.1
    (reads_then _ _ _ _ _ _ _ c.in_ok-number-in-Done.ensures.reads c.in_ok-reached-in-Done.ensures.reads) c.in_err-due-in-Done.ensures.reads.within c.in_err-due-in-Done.ensures.damage
