use Rattle.std.proofs.Common.{◌∙◌, ap, refl, sym, inr}
use Rattle.mx_row_rules.proofs.FoundProofs.DeferralLemmas.{not_rectified, rectified_is}
use Rattle.mx_row_rules.specs.found.Defects.{is_rectified_in}
use Rattle.mx_lookups.proofs.NumbersProofs.BookRows.{lines_of_defect}
use Rattle.mx_lookups.proofs.NumbersProofs.Composed.{answers, behind, chosen, by_first, hands, none_given, some_given}
use Rattle.mx_lookups.proofs.NumbersProofs.TableLemmas.{release_lines}
use Rattle.mx_lookups.specs.numbers.Given.{DefectNumber}
use Rattle.mx_lookups.proofs.defects.is_rectified.Goals as goal

pub returns-in_ok-rows-in-Some : goal.returns-in_ok-rows-in-Some
returns-in_ok-rows-in-Some g c = record {
  looks_up =
      let made = c.is_rectified_in.ensures ∙ ap is_rectified_in c.deref.ensures.value in
      answers (behind c.in_ok-found.ensures.looks_up.now (chosen release_lines c.in_ok-rows-in-Some.ensures.same_reference (lines_of_defect _ c.in_ok-rows-in-Some.ensures.reads) c.in_ok-rows-in-Some.ensures.reads))
      (λ book b both. made ∙ ap is_rectified_in both.1 ∙ rectified_is book b c.args.doc.now c.in-Some.number (sym both.0 ∙ c.in-Some.is))
      (λ _ both. some_given c.in-Some.is both.0 (_, both.1, made));
}

pub returns-in-None : goal.returns-in-None
returns-in-None g c = record { looks_up = answers c.in_ok-found.ensures.looks_up.now (λ book b found. sym (not_rectified book b c.args.doc.now (sym found ∙ c.in-None.is))) (λ _ found. none_given c.in-None.is found refl) }

pub returns-in_err-rows-in-Some : goal.returns-in_err-rows-in-Some
returns-in_err-rows-in-Some g c = record { looks_up = hands c.from_residual-in_err-rows-in-Some.ensures.1 (λ _ _ it. inr (_, by_first (DefectNumber _) c.in-Some.is it.0, it.1)) (behind c.in_ok-found.ensures.looks_up.now (chosen release_lines c.in_err-rows-in-Some.ensures.same_reference (lines_of_defect _ c.in_err-rows-in-Some.ensures.reads) c.in_err-rows-in-Some.ensures.reads)) }
