use Rattle.std.proofs.Common.{◌<◌, ◌^◌, ◌∙◌, ap, arith, inl, inr, refl, subst, sym}
use Rattle.mx_layout.specs.declared.fault.Table.TheVariants as table
use Rattle.mx_row_rules.proofs.FoundProofs.ProgrammeLemmas.{revision_is, revision_low}
use Rattle.mx_row_rules.specs.found.Programmes.{revision_after}
use Rattle.mx_lookups.proofs.LivesProofs.DamageLemmas.{revision_past}
use Rattle.mx_lookups.proofs.NumbersProofs.BookRows.{programmes_of_kind}
use Rattle.mx_lookups.proofs.NumbersProofs.Composed.{chosen, hands, refuses, rows_give}
use Rattle.mx_lookups.proofs.NumbersProofs.TableLemmas.{programmes}
use Rattle.mx_lookups.proofs.lives.programmes.next_revision.Goals as goal

pub returns-in_err-rows : goal.returns-in_err-rows
returns-in_err-rows g c = record { looks_up = hands c.from_residual.ensures.1 (λ _ _. inl) (chosen programmes c.in_err-rows.ensures.same_reference (programmes_of_kind _ c.in_err-rows.ensures.reads) c.in_err-rows.ensures.reads) }

pub returns-in-Some : goal.returns-in-Some
returns-in-Some g c = record { looks_up = rows_give programmes revision_after c.in_ok-rows.ensures.same_reference (programmes_of_kind _ c.in_ok-rows.ensures.reads) c.in_ok-rows.ensures.reads (c.in-Some.ensures.1 ∙ ap revision_after c.deref.ensures.value) (λ book b found. ap revision_after found ∙ revision_is c.args.kind.now book) }

pub returns : goal.returns
returns g c = record {
  looks_up =
      let past = subst (λ rows. ¬ (revision_after rows < 2 ^ 32)) c.deref.ensures.value c.in-None.ensures in
      refuses table.Programme (chosen programmes c.in_ok-rows.ensures.same_reference (programmes_of_kind _ c.in_ok-rows.ensures.reads) c.in_ok-rows.ensures.reads)
      (λ book b found.
      let kind = c.args.kind.now in
      let next = ap revision_after (c.deref.ensures.value ∙ found) ∙ revision_is kind book in
      c.in-None.ensures (subst (λ n. n < 2 ^ 32) (sym next) (revision_low kind book b)))
      (λ trees are. revision_past _ _ past (_, are, refl))
      (λ trees are. inr (refl, (_, (_, are, refl), omega (arith, past))));
}
