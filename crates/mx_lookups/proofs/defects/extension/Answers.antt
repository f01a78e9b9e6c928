use Rattle.std.proofs.Common.{◌∙◌, ap, refl, sym, inr}
use Rattle.mx_row_rules.proofs.FoundProofs.DeferralLemmas.{extension_is, no_extension}
use Rattle.mx_row_rules.specs.found.Defects.{extension_in}
use Rattle.mx_lookups.proofs.NumbersProofs.BookRows.{extensions_of_defect}
use Rattle.mx_lookups.proofs.NumbersProofs.Composed.{answers, behind, chosen, by_first, hands, none_given, some_given}
use Rattle.mx_lookups.proofs.NumbersProofs.TableLemmas.{extensions}
use Rattle.mx_lookups.specs.numbers.Given.{DefectNumber}
use Rattle.mx_lookups.proofs.defects.extension.Goals as goal

pub returns-in_ok-rows-in-Some : goal.returns-in_ok-rows-in-Some
returns-in_ok-rows-in-Some g c = record {
  looks_up =
      let made = c.extension_in.ensures ∙ ap (extension_in c.args.doc.now) c.deref.ensures.value in
      answers (behind c.in_ok-found.ensures.looks_up.now (chosen extensions c.in_ok-rows-in-Some.ensures.same_reference (extensions_of_defect _ c.in_ok-rows-in-Some.ensures.reads) c.in_ok-rows-in-Some.ensures.reads))
      (λ book b both. made ∙ ap (extension_in c.args.doc.now) both.1 ∙ extension_is book b c.args.doc.now c.in-Some.number (sym both.0 ∙ c.in-Some.is))
      (λ _ both. some_given c.in-Some.is both.0 (_, both.1, made));
}

pub returns-in-None : goal.returns-in-None
returns-in-None g c = record { looks_up = answers c.in_ok-found.ensures.looks_up.now (λ book b found. sym (no_extension book b c.args.doc.now (sym found ∙ c.in-None.is))) (λ _ found. none_given c.in-None.is found refl) }

pub returns-in_err-rows-in-Some : goal.returns-in_err-rows-in-Some
returns-in_err-rows-in-Some g c = record { looks_up = hands c.from_residual-in_err-rows-in-Some.ensures.1 (λ _ _ it. inr (_, by_first (DefectNumber _) c.in-Some.is it.0, it.1)) (behind c.in_ok-found.ensures.looks_up.now (chosen extensions c.in_err-rows-in-Some.ensures.same_reference (extensions_of_defect _ c.in_err-rows-in-Some.ensures.reads) c.in_err-rows-in-Some.ensures.reads)) }
