use Rattle.std.proofs.Common.{◌∙◌, Some, ap, ap₂, inr, sym}
use Rattle.std.specs.List.{list_any}
use Rattle.mx_registers.specs.Names.{or_zero}
use Rattle.mx_row_rules.proofs.FoundProofs.AnswerLemmas.{removal_by_spans}
use Rattle.mx_row_rules.proofs.FoundProofs.FoundLemmas.{entry_is}
use Rattle.mx_row_rules.specs.found.Spans.{ends_with}
use Rattle.mx_lookups.specs.numbers.Given.{ComponentNumber}
use Rattle.mx_lookups.proofs.NumbersProofs.BookRows.{spans_of_removal}
use Rattle.mx_lookups.proofs.NumbersProofs.Composed.{answers, behind, chosen, hands}
use Rattle.mx_lookups.proofs.NumbersProofs.TableLemmas.{spans}
use Rattle.mx_row_judge.proofs.KnownProofs.KnownLemmas.{named}
use Rattle.mx_row_judge.specs.known.Known.{Ended}
use Rattle.mx_row_judge.proofs.known.kinds.is_removal.Goals as goal

pub returns-in_err-rows : goal.returns-in_err-rows
returns-in_err-rows g c = record { looks_up = hands c.from_residual-in_err-rows.ensures.1 (λ _ _ it. inr it.1) (behind c.in_ok-component.ensures.looks_up.now (chosen spans c.in_err-rows.ensures.same_reference (spans_of_removal _ c.in_err-rows.ensures.reads) c.in_err-rows.ensures.reads)) }

pub returns : goal.returns
returns g c = record {
  looks_up =
      let n = c.args.seq in
      let r = c.args.removal in
      let made = c.ends_in.ensures ∙ ap (list_any (ends_with n c.or_zero.result r)) c.deref.ensures.value in
      answers (behind c.in_ok-component.ensures.looks_up.now (chosen spans c.in_ok-rows.ensures.same_reference (spans_of_removal _ c.in_ok-rows.ensures.reads) c.in_ok-rows.ensures.reads))
      (λ book b both doc shape number.
      removal_by_spans book doc r n b shape (entry_is book doc ∙ number)
      ∙ ap (λ same. Some (n, same)) (sym (made ∙ ap₂ (λ component rows. list_any (ends_with n component r) rows) (c.or_zero.ensures ∙ ap or_zero both.0) both.1)))
      (λ _ both. named (ComponentNumber r.serial) (Ended n r) c.or_zero.ensures both.0 (_, both.1, made));
}
