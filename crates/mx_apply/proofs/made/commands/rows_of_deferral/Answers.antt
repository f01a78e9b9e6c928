use Rattle.std.proofs.Common.{◌∙◌, inl, inr, [], ◌∷◌, ap, subst, sym}
use Rattle.mx_lookups.proofs.NumbersProofs.ReadLemmas.{reads_then, told}
use Rattle.mx_apply.proofs.MadeProofs.AmongLemmas.{among}
use Rattle.mx_lookups.proofs.NumbersProofs.AnyLemmas.{any_so}
use Rattle.mx_row_rules.specs.changes.Made.{nothing_found}
use Rattle.mx_apply.specs.made.Found.{AreTotalsOf}
use Rattle.mx_apply.proofs.MadeProofs.AnyMadeLemmas.{any_then}
use Rattle.mx_lookups.proofs.NumbersProofs.ToldLemmas.{handed}
use Rattle.mx_apply.proofs.MadeProofs.DamageLemmas.{handed_with}
use Rattle.mx_apply.proofs.made.commands.rows_of_deferral.Goals as goal

pub returns-clause-reads : goal.returns-clause-reads
returns-clause-reads g c =
    told _ _ _ _ _ _
    (λ book b both doc own. c.in_ok-deferral_rows.ensures.of_book book doc own both.0 (c.deref.ensures.value ∙ both.1 ∙ ap (λ n. among (n ∷ []) book) both.0))
    (reads_then _ _ _ _ _ _ _ c.in_ok-aircraft.ensures.reads c.in_ok-totals.ensures.reads)

pub returns-clause-any_rows : goal.returns-clause-any_rows
returns-clause-any_rows g c =
    let n = c.in_ok-aircraft.aircraft in
    any_so _ _ _ _ _ _
    (λ trees both. record {
      found = record nothing_found { number = n; totals = c.deref.result.now };
      looked_up = record { numbers = both.0; spans = tt; totals = subst (AreTotalsOf (n ∷ []) trees) (sym c.deref.ensures.value) both.1; lines = tt };
      made = c.in_ok-deferral_rows.ensures.made;
    })
    (any_then _ _ _ _ _ _ _ _ c.in_ok-aircraft.ensures.reads c.in_ok-aircraft.ensures.any_rows c.in_ok-totals.ensures.reads.within c.in_ok-totals.ensures.any_rows)

pub returns-in_err-aircraft-clause-damage : goal.returns-in_err-aircraft-clause-damage
returns-in_err-aircraft-clause-damage g c = handed (λ _ _. inl) c.from_residual.ensures.1 c.in_err-aircraft.ensures.damage

pub returns-in_err-totals-clause-damage : goal.returns-in_err-totals-clause-damage
returns-in_err-totals-clause-damage g c =
    let n = c.in_ok-aircraft.aircraft in
    handed_with (λ name trees by it. inr (n, by, it)) c.from_residual-in_err-totals.ensures.1 c.in_ok-aircraft.ensures.reads c.in_ok-aircraft.ensures.any_rows c.in_err-totals.ensures.reads.within c.in_err-totals.ensures.damage
