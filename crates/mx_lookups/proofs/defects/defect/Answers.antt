use Rattle.std.proofs.Common.{◌∙◌, ◌≡◌, Option, Some, ap, ap₂, inl, inr, refl, subst, sym, ℕ}
use Rattle.std.specs.Prelude.{IsSomeAnd, is_some}
use Rattle.mx_layout.specs.declared.fault.Table.TheVariants as table
use Rattle.mx_row_rules.proofs.FoundProofs.DeferralLemmas.{defect_there, no_defect}
use Rattle.mx_row_rules.specs.found.Defects.{defect_in, deferral_aircraft}
use Rattle.mx_lookups.proofs.DamageLemmas.{aircraft_unmet, deferral_unmet, no_tail}
use Rattle.mx_lookups.proofs.DefectLemmas.{defect_said, deferral_there}
use Rattle.mx_lookups.proofs.NumbersProofs.BookRows.{aircraft_of_number, deferrals_of_number}
use Rattle.mx_lookups.proofs.NumbersProofs.Composed.{answers, behind, chosen, by_first, hands, none_given, refuses, some_given}
use Rattle.mx_lookups.proofs.NumbersProofs.TableLemmas.{aircraft, deferrals}
use Rattle.mx_lookups.proofs.NumbersProofs.ToldLemmas.{has_none}
use Rattle.mx_lookups.specs.numbers.Given.{DefectNumber}
use Rattle.mx_lookups.specs.numbers.Told.{AircraftDeferred}
use Rattle.mx_lookups.proofs.defects.defect.Goals as goal

pub returns-in_err-rows-in-Some : goal.returns-in_err-rows-in-Some
returns-in_err-rows-in-Some g c = record { looks_up = hands c.from_residual-in_err-rows-in-Some.ensures.1 (λ _ _ it. inr (_, by_first (DefectNumber _) c.in-Some.is it.0, (inl (inl it.1)))) (behind c.in_ok-found.ensures.looks_up.now (chosen deferrals c.in_err-rows-in-Some.ensures.same_reference (deferrals_of_number _ c.in_err-rows-in-Some.ensures.reads) c.in_err-rows-in-Some.ensures.reads)) }

pub returns-in_err-named-in-Some-deferral_aircraft : goal.returns-in_err-named-in-Some-deferral_aircraft
returns-in_err-named-in-Some-deferral_aircraft g c = record { looks_up = hands c.from_residual-in_err-named-in-Some-deferral_aircraft.ensures.1 (λ _ _ it. inr (_, by_first (DefectNumber _) c.in-Some.is it.0, (inl (inr (_, by_first (AircraftDeferred _) c.in-Some-deferral_aircraft.is (_, it.1.0, c.deferral_aircraft.ensures ∙ ap deferral_aircraft c.deref.ensures.value), (inl it.1.1)))))) (behind c.in_ok-found.ensures.looks_up.now (behind (chosen deferrals {new = c.defect_by_seq.new.tx} c.in_ok-rows-in-Some.ensures.same_reference (deferrals_of_number _ c.in_ok-rows-in-Some.ensures.reads) c.in_ok-rows-in-Some.ensures.reads) (chosen aircraft c.in_err-named-in-Some-deferral_aircraft.ensures.same_reference (aircraft_of_number _ c.in_err-named-in-Some-deferral_aircraft.ensures.reads) c.in_err-named-in-Some-deferral_aircraft.ensures.reads))) }

-- what is so of the number that there is
by_one : (P : ℕ → Type 0) (o : Option ℕ) (n : ℕ) → o ≡ Some n → P n → IsSomeAnd o P
by_one P o n is p = subst (λ x. IsSomeAnd x P) (sym is) p

pub returns-in-Some-defect_in : goal.returns-in-Some-defect_in
returns-in-Some-defect_in g c = record {
  looks_up =
      let doc = c.args.doc.now in
      let its = sym (c.deferral_aircraft.ensures ∙ ap deferral_aircraft c.deref.ensures.value) ∙ c.in-Some-deferral_aircraft.is in
      let made = sym c.in-Some-defect_in.is ∙ c.defect_in.ensures ∙ ap₂ (defect_in doc) c.deref-in-Some-deferral_aircraft.ensures.value c.deref-in-Some-deferral_aircraft-2.ensures.value in
      answers (behind c.in_ok-found.ensures.looks_up.now (behind (chosen deferrals {new = c.defect_by_seq.new.tx} c.in_ok-rows-in-Some.ensures.same_reference (deferrals_of_number _ c.in_ok-rows-in-Some.ensures.reads) c.in_ok-rows-in-Some.ensures.reads) (chosen aircraft c.in_ok-named-in-Some-deferral_aircraft.ensures.same_reference (aircraft_of_number _ c.in_ok-named-in-Some-deferral_aircraft.ensures.reads) c.in_ok-named-in-Some-deferral_aircraft.ensures.reads)))
      (λ book b all. made ∙ defect_said book b doc c.in-Some.number (sym all.0 ∙ c.in-Some.is) _ all.1.0 c.in-Some-deferral_aircraft.aircraft _ its all.1.1)
      (λ _ all. some_given c.in-Some.is all.0 (_, all.1.0, by_one _ _ _ its (_, all.1.1, made), refl));
}

pub returns-in-Some-deferral_aircraft : goal.returns-in-Some-deferral_aircraft
returns-in-Some-deferral_aircraft g c = record {
  looks_up =
      let doc = c.args.doc.now in
      let its = sym c.in-Some-deferral_aircraft.is ∙ c.deferral_aircraft.ensures ∙ ap deferral_aircraft c.deref.ensures.value in
      let made = sym c.in-None-defect_in.is ∙ c.defect_in.ensures ∙ ap₂ (defect_in doc) c.deref-in-Some-deferral_aircraft.ensures.value c.deref-in-Some-deferral_aircraft-2.ensures.value in
      let none = no_tail doc _ _ _ its made in
      refuses table.Defect (behind c.in_ok-found.ensures.looks_up.now (behind (chosen deferrals {new = c.defect_by_seq.new.tx} c.in_ok-rows-in-Some.ensures.same_reference (deferrals_of_number _ c.in_ok-rows-in-Some.ensures.reads) c.in_ok-rows-in-Some.ensures.reads) (chosen aircraft c.in_ok-named-in-Some-deferral_aircraft.ensures.same_reference (aircraft_of_number _ c.in_ok-named-in-Some-deferral_aircraft.ensures.reads) c.in_ok-named-in-Some-deferral_aircraft.ensures.reads)))
      (λ book b all.
      let number = sym all.0 ∙ c.in-Some.is in
      let said = defect_said book b doc c.in-Some.number number _ all.1.0 c.in-Some-deferral_aircraft.aircraft _ (sym its) all.1.1 in
      let e = ap is_some (made ∙ said) ∙ defect_there book doc c.in-Some.number number in
      absurd cc)
      (λ trees all. aircraft_unmet trees doc c.in-Some-deferral_aircraft.aircraft _ _ (_, all.1.0, its) its made (_, all.1.1, refl))
      (λ trees all. inr (_, by_first (DefectNumber _) c.in-Some.is all.0, (inl (inr (_, by_first (AircraftDeferred _) c.in-Some-deferral_aircraft.is (_, all.1.0, c.deferral_aircraft.ensures ∙ ap deferral_aircraft c.deref.ensures.value), (inr (refl, has_none (λ row. row.tail) (_, all.1.1, none))))))));
}

pub returns-in-Some : goal.returns-in-Some
returns-in-Some g c = record {
  looks_up =
      let none = sym c.in-None-deferral_aircraft.is ∙ c.deferral_aircraft.ensures ∙ ap deferral_aircraft c.deref.ensures.value in
      refuses table.Defect (behind c.in_ok-found.ensures.looks_up.now (chosen deferrals c.in_ok-rows-in-Some.ensures.same_reference (deferrals_of_number _ c.in_ok-rows-in-Some.ensures.reads) c.in_ok-rows-in-Some.ensures.reads))
      (λ book b both. deferral_there book b c.args.doc.now c.in-Some.number (sym both.0 ∙ c.in-Some.is) _ both.1 (sym none))
      (λ trees both. deferral_unmet trees c.args.doc.now c.in-Some.number (λ row. row.aircraft) (subst (DefectNumber c.args.doc.now trees) c.in-Some.is both.0) (_, both.1, none))
      (λ trees both. inr (_, by_first (DefectNumber _) c.in-Some.is both.0, (inr (refl, has_none (λ row. row.aircraft) (_, both.1, none)))));
}

pub returns : goal.returns
returns g c = record { looks_up = answers c.in_ok-found.ensures.looks_up.now (λ book b found. sym (no_defect book c.args.doc.now (sym found ∙ c.in-None.is))) (λ _ found. none_given c.in-None.is found refl) }
