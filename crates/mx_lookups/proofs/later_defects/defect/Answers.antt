use Rattle.std.proofs.Common.{◌∙◌, Some, ap, inl, inr, refl, subst, sym}
use Rattle.std.specs.Prelude.{slice_get}
use Rattle.std.specs.Option.{option_map}
use Rattle.mx_base.specs.declared.rows.rows.Deferral3Row.{Deferral3Row}
use Rattle.mx_layout.specs.declared.fault.Table.TheVariants as table
use Rattle.mx_row_rules.proofs.FoundProofs.DeferralLemmas.{no_defect}
use Rattle.mx_lookups.proofs.LaterLemmas.{found_named, found_named_unmet, found_said, found_there, found_unmet}
use Rattle.mx_lookups.proofs.NumbersProofs.Composed.{answers, behind, by_first, chosen, hands, none_given, refuses, some_given}
use Rattle.mx_lookups.proofs.NumbersProofs.LaterRows.{found_of_number}
use Rattle.mx_lookups.proofs.NumbersProofs.LaterTables.{deferrals_found}
use Rattle.mx_lookups.proofs.NumbersProofs.ToldLemmas.{has_none}
use Rattle.mx_lookups.specs.numbers.Given.{DefectNumber, TailOfNumber}
use Rattle.mx_lookups.proofs.later_defects.defect.Goals as goal

pub returns-in_err-rows-in-Some : goal.returns-in_err-rows-in-Some
returns-in_err-rows-in-Some g c = record { looks_up = hands c.from_residual-in_err-rows-in-Some.ensures.1 (λ _ _ it. inr (_, by_first (DefectNumber _) c.in-Some.is it.0, (inl (inl it.1)))) (behind c.in_ok-found.ensures.looks_up.later (chosen deferrals_found c.in_err-rows-in-Some.ensures.same_reference (found_of_number _ c.in_err-rows-in-Some.ensures.reads) c.in_err-rows-in-Some.ensures.reads)) }

pub returns-in_err-tail-in-Some-first : goal.returns-in_err-tail-in-Some-first
returns-in_err-tail-in-Some-first g c = record {
  looks_up =
      let first = ap (λ l. slice_get l 0) (sym c.deref.ensures.value) ∙ sym c.in-Some-first.ensures.value in
      hands c.from_residual-in_err-tail-in-Some-first.ensures.1
      (λ _ _ it. inr (_, by_first (DefectNumber _) c.in-Some.is it.0, (inl (inr (c.in-Some-first.row.now, (_, it.1.0, sym first), (inl it.1.1))))))
      (behind c.in_ok-found.ensures.looks_up.later (behind (chosen deferrals_found {new = c.defect3_by_seq.new.tx} c.in_ok-rows-in-Some.ensures.same_reference (found_of_number _ c.in_ok-rows-in-Some.ensures.reads) c.in_ok-rows-in-Some.ensures.reads) c.in_err-tail-in-Some-first.ensures.looks_up.later));
}

pub returns-in-Some-2 : goal.returns-in-Some-2
returns-in-Some-2 g c = record {
  looks_up =
      let doc = c.args.doc.now in
      let row = c.in-Some-first.row.now in
      let tail = c.in-Some-2.tail in
      let first = ap (λ l. slice_get l 0) (sym c.deref.ensures.value) ∙ sym c.in-Some-first.ensures.value in
      answers (behind c.in_ok-found.ensures.looks_up.later (behind (chosen deferrals_found {new = c.defect3_by_seq.new.tx} c.in_ok-rows-in-Some.ensures.same_reference (found_of_number _ c.in_ok-rows-in-Some.ensures.reads) c.in_ok-rows-in-Some.ensures.reads) c.in_ok-tail-in-Some-first.ensures.looks_up.later))
      (λ book b all. ap Some c.defect_said.ensures ∙ found_said book b doc c.in-Some.number (sym all.0 ∙ c.in-Some.is) row tail (ap (λ l. slice_get l 0) (sym all.1.0) ∙ first) (sym all.1.1 ∙ c.in-Some-2.is))
      (λ trees all. some_given c.in-Some.is all.0 (row, tail, (_, all.1.0, sym first), subst (TailOfNumber row.deferral.aircraft trees) c.in-Some-2.is all.1.1, ap Some c.defect_said.ensures));
}

pub returns-in-Some-first : goal.returns-in-Some-first
returns-in-Some-first g c = record {
  looks_up =
      let doc = c.args.doc.now in
      let row = c.in-Some-first.row.now in
      let first = ap (λ l. slice_get l 0) (sym c.deref.ensures.value) ∙ sym c.in-Some-first.ensures.value in
      refuses table.Defect3 (behind c.in_ok-found.ensures.looks_up.later (behind (chosen deferrals_found {new = c.defect3_by_seq.new.tx} c.in_ok-rows-in-Some.ensures.same_reference (found_of_number _ c.in_ok-rows-in-Some.ensures.reads) c.in_ok-rows-in-Some.ensures.reads) c.in_ok-tail-in-Some-first.ensures.looks_up.later))
      (λ book b all. found_named book b doc c.in-Some.number (sym all.0 ∙ c.in-Some.is) row (ap (λ l. slice_get l 0) (sym all.1.0) ∙ first) (sym all.1.1 ∙ c.in-None-2.is))
      (λ trees all. found_named_unmet trees c.in-Some.number row (_, all.1.0, sym first) (subst (TailOfNumber row.deferral.aircraft trees) c.in-None-2.is all.1.1))
      (λ trees all. inr (_, by_first (DefectNumber _) c.in-Some.is all.0, (inl (inr (row, (_, all.1.0, sym first), inr (refl, has_none (λ r. r.tail) (subst (TailOfNumber row.deferral.aircraft trees) c.in-None-2.is all.1.1)))))));
}

pub returns-in-Some : goal.returns-in-Some
returns-in-Some g c = record {
  looks_up =
      let doc = c.args.doc.now in
      let none = ap (λ l. slice_get l 0) (sym c.deref.ensures.value) ∙ sym c.in-None-first.ensures.value in
      refuses table.Defect3 (behind c.in_ok-found.ensures.looks_up.later (chosen deferrals_found c.in_ok-rows-in-Some.ensures.same_reference (found_of_number _ c.in_ok-rows-in-Some.ensures.reads) c.in_ok-rows-in-Some.ensures.reads))
      (λ book b both. found_there book b doc c.in-Some.number (sym both.0 ∙ c.in-Some.is) (ap (λ l. slice_get l 0) (sym both.1) ∙ none))
      (λ trees both. found_unmet trees doc c.in-Some.number (subst (DefectNumber doc trees) c.in-Some.is both.0) (_, both.1, sym none))
      (λ trees both. inr (_, by_first (DefectNumber _) c.in-Some.is both.0, (inr (refl, has_none (λ (r : Deferral3Row). r.deferral.aircraft) (_, both.1, ap (option_map (λ (r : Deferral3Row). r.deferral.aircraft)) (sym none))))));
}

pub returns : goal.returns
returns g c = record { looks_up = answers c.in_ok-found.ensures.looks_up.later (λ book b found. sym (no_defect book c.args.doc.now (sym found ∙ c.in-None.is))) (λ _ found. none_given c.in-None.is found refl) }
