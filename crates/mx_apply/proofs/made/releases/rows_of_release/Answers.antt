use Rattle.std.proofs.Common.{◌∙◌, inl, inr, ℕ, List, [], ◌∷◌, ap, subst, sym}
use Rattle.mx_row_rules.specs.changes.Certified.{AreKnownOf}
use Rattle.mx_lookups.proofs.NumbersProofs.ReadLemmas.{reads_then, told}
use Rattle.mx_apply.proofs.MadeProofs.AmongLemmas.{among}
use Rattle.mx_lookups.proofs.NumbersProofs.AnyLemmas.{any_so}
use Rattle.mx_row_rules.specs.changes.Made.{nothing_found}
use Rattle.mx_apply.specs.made.Found.{AreLinesAt, AreTotalsOf}
use Rattle.mx_apply.proofs.MadeProofs.AnyMadeLemmas.{any_then}
use Rattle.sqlite.specs.Tree.{Trees}
use Rattle.mx_book.specs.declared.commands.release.Line.{Line}
use Rattle.mx_book.specs.declared.commands.release.Place.{Place}
use Rattle.mx_book.specs.Judge.{item_at}
use Rattle.mx_layout.specs.TableName.{TableName}
use Rattle.mx_lookups.specs.numbers.Given.{ItemNumber}
use Rattle.mx_lookups.specs.numbers.Told.{Damage, Either, ItemDamage}
use Rattle.mx_lookups.proofs.NumbersProofs.ToldLemmas.{handed}
use Rattle.mx_apply.specs.made.Damage.{DamageByNumber, LinesAtDamage, ReleaseKnownDamage, TotalsDamage}
use Rattle.mx_apply.proofs.MadeProofs.DamageLemmas.{handed_with}
use Rattle.mx_apply.proofs.made.releases.rows_of_release.Goals as goal

pub returns-clause-reads : goal.returns-clause-reads
returns-clause-reads g c =
    told _ _ _ _ _ _
    (λ book b both doc own.
    c.in_ok-release_rows.ensures.of_book book doc c.args.lines.now own both.0.0 (subst (AreKnownOf book c.args.release c.args.lines.now) (sym c.deref.ensures.value) both.0.1) (c.deref-2.ensures.value ∙ both.1 ∙ ap (λ n. among (n ∷ []) book) both.0.0))
    (reads_then _ _ _ _ _ _ _ c.in_ok-item.ensures.reads c.in_ok-totals.ensures.reads)

pub returns-clause-any_rows : goal.returns-clause-any_rows
returns-clause-any_rows g c =
    let n = c.in_ok-item.item in
    any_so _ _ _ _ _ _
    (λ trees both. record {
      found = record nothing_found { number = n; totals = c.deref-2.result.now; lines = c.deref.result.now };
      looked_up = record {
        numbers = both.0.0;
        spans = tt;
        totals = subst (AreTotalsOf (n ∷ []) trees) (sym c.deref-2.ensures.value) both.1;
        lines = subst (AreLinesAt c.args.release.place c.args.lines.now trees) (sym c.deref.ensures.value) both.0.1;
      };
      made = c.in_ok-release_rows.ensures.made c.args.lines.now;
    })
    (any_then _ _ _ _ _ _ _ _ c.in_ok-item.ensures.reads c.in_ok-item.ensures.any_rows c.in_ok-totals.ensures.reads.within c.in_ok-totals.ensures.any_rows)

-- of the place, or of the lines
known_as : (place : Place) (lines : List Line) (name : TableName) (trees : Trees) (Then : ℕ → Damage) → ReleaseKnownDamage place lines name trees
    → Either (LinesAtDamage place lines) (DamageByNumber (ItemDamage (item_at place)) (ItemNumber (item_at place)) Then) name trees
known_as place lines name trees Then (inl item) = inr (inl item)
known_as place lines name trees Then (inr line) = inl line

pub returns-in_err-item-clause-damage : goal.returns-in_err-item-clause-damage
returns-in_err-item-clause-damage g c =
    handed (λ name trees it. known_as c.args.release.place c.args.lines.now name trees (λ n. TotalsDamage (n ∷ [])) it) c.from_residual.ensures.1 c.in_err-item.ensures.damage

pub returns-in_err-totals-clause-damage : goal.returns-in_err-totals-clause-damage
returns-in_err-totals-clause-damage g c =
    let n = c.in_ok-item.item in
    handed_with (λ name trees known it. inr (inr (n, known.0, it))) c.from_residual-in_err-totals.ensures.1 c.in_ok-item.ensures.reads c.in_ok-item.ensures.any_rows c.in_err-totals.ensures.reads.within c.in_err-totals.ensures.damage
