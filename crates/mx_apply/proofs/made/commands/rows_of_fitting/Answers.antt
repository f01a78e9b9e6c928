use Rattle.std.proofs.Common.{◌∙◌, inl, inr, ℕ, [], ◌∷◌, ap₂, subst, sym}
use Rattle.mx_lookups.proofs.NumbersProofs.ReadLemmas.{reads_then, told}
use Rattle.mx_apply.proofs.MadeProofs.AmongLemmas.{among}
use Rattle.mx_lookups.proofs.NumbersProofs.AnyLemmas.{any_so}
use Rattle.mx_row_rules.specs.changes.Made.{nothing_found}
use Rattle.mx_apply.specs.made.Found.{AreTotalsOf, NumberBy}
use Rattle.mx_apply.proofs.MadeProofs.AnyMadeLemmas.{any_then}
use Rattle.mx_lookups.specs.numbers.Given.{AircraftNumber}
use Rattle.mx_lookups.proofs.NumbersProofs.ToldLemmas.{handed}
use Rattle.mx_apply.specs.made.Damage.{TotalsDamage}
use Rattle.mx_apply.proofs.MadeProofs.DamageLemmas.{handed_with, told_with}
use Rattle.mx_apply.proofs.made.commands.rows_of_fitting.Goals as goal

pub returns-clause-reads : goal.returns-clause-reads
returns-clause-reads g c =
    told _ _ _ _ _ _
    (λ book b all doc own. c.in_ok-fitting_rows.ensures.of_book book doc own all.0 all.1.0 (c.deref.ensures.value ∙ all.1.1 ∙ ap₂ (λ n m. among (n ∷ m ∷ []) book) all.1.0 all.0))
    (reads_then _ _ _ _ _ _ _ c.in_ok-component.ensures.reads (reads_then _ _ _ _ _ _ _ c.in_ok-aircraft.ensures.reads c.in_ok-totals.ensures.reads))

pub returns-clause-any_rows : goal.returns-clause-any_rows
returns-clause-any_rows g c =
    let n = c.in_ok-aircraft.aircraft in
    let m = c.in_ok-component.component in
    let later = reads_then _ _ _ _ _ _ _ c.in_ok-aircraft.ensures.reads c.in_ok-totals.ensures.reads in
    any_so _ _ _ _ _ _
    (λ trees all. record {
      found = record nothing_found { number = n; component = m; totals = c.deref.result.now };
      looked_up = record { numbers = (all.0, all.1.0); spans = tt; totals = subst (AreTotalsOf (n ∷ m ∷ []) trees) (sym c.deref.ensures.value) all.1.1; lines = tt };
      made = c.in_ok-fitting_rows.ensures.made;
    })
    (any_then _ _ _ _ _ _ _ _ c.in_ok-component.ensures.reads c.in_ok-component.ensures.any_rows later.within
    (any_then _ _ _ _ _ _ _ _ c.in_ok-aircraft.ensures.reads c.in_ok-aircraft.ensures.any_rows c.in_ok-totals.ensures.reads.within c.in_ok-totals.ensures.any_rows))

pub returns-in_err-component-clause-damage : goal.returns-in_err-component-clause-damage
returns-in_err-component-clause-damage g c = handed (λ _ _. inl) c.from_residual.ensures.1 c.in_err-component.ensures.damage

pub returns-in_err-aircraft-clause-damage : goal.returns-in_err-aircraft-clause-damage
returns-in_err-aircraft-clause-damage g c =
    let m = c.in_ok-component.component in
    handed_with (λ name trees by it. inr (m, by, inl it)) c.from_residual-in_err-aircraft.ensures.1 c.in_ok-component.ensures.reads c.in_ok-component.ensures.any_rows c.in_err-aircraft.ensures.reads.within c.in_err-aircraft.ensures.damage

pub returns-in_err-totals-clause-damage : goal.returns-in_err-totals-clause-damage
returns-in_err-totals-clause-damage g c =
    let n = c.in_ok-aircraft.aircraft in
    let m = c.in_ok-component.component in
    let later = reads_then _ _ _ _ _ _ _ c.in_ok-aircraft.ensures.reads c.in_err-totals.ensures.reads in
    told_with (λ name trees by it. inr (m, by, inr it)) c.in_ok-component.ensures.reads c.in_ok-component.ensures.any_rows later.within
    (handed_with {Why = λ name trees. (aircraft : ℕ) × NumberBy (AircraftNumber c.args.fitting.tail) trees aircraft × TotalsDamage (aircraft ∷ m ∷ []) name trees} (λ name trees by it. (n, by, it))
    c.from_residual-in_err-totals.ensures.1 c.in_ok-aircraft.ensures.reads c.in_ok-aircraft.ensures.any_rows c.in_err-totals.ensures.reads.within c.in_err-totals.ensures.damage)
