use Rattle.std.proofs.Common.{◌∙◌, Some, ap, ap₂, inl, inr, sym}
use Rattle.std.specs.List.{list_any}
use Rattle.mx_registers.specs.Names.{or_zero}
use Rattle.mx_row_rules.proofs.FoundProofs.AnswerLemmas.{fitting_by_spans}
use Rattle.mx_row_rules.proofs.FoundProofs.FoundLemmas.{entry_is}
use Rattle.mx_row_rules.specs.found.Spans.{begins_with}
use Rattle.mx_lookups.proofs.NumbersProofs.BookRows.{spans_of_fitting}
use Rattle.mx_lookups.proofs.NumbersProofs.Composed.{answers, behind, chosen, hands}
use Rattle.mx_lookups.proofs.NumbersProofs.TableLemmas.{spans}
use Rattle.mx_lookups.specs.numbers.Given.{AircraftNumber, ComponentNumber}
use Rattle.mx_row_judge.proofs.KnownProofs.KnownLemmas.{named}
use Rattle.mx_row_judge.specs.known.Known.{Began, ByNumber}
use Rattle.mx_row_judge.proofs.known.kinds.is_fitting.Goals as goal

pub returns-in_err-rows : goal.returns-in_err-rows
returns-in_err-rows g c = record { looks_up = hands c.from_residual-in_err-rows.ensures.1 (λ _ _ it. inr (inr it.1.1)) (behind c.in_ok-component.ensures.looks_up.now (behind c.in_ok-aircraft.ensures.looks_up.now (chosen spans c.in_err-rows.ensures.same_reference (spans_of_fitting _ c.in_err-rows.ensures.reads) c.in_err-rows.ensures.reads))) }

pub returns : goal.returns
returns g c = record {
  looks_up =
      let n = c.args.seq in
      let f = c.args.fitting in
      let made = c.begins_in.ensures ∙ ap (list_any (begins_with n c.or_zero.result c.or_zero-2.result f)) c.deref.ensures.value in
      answers (behind c.in_ok-component.ensures.looks_up.now (behind c.in_ok-aircraft.ensures.looks_up.now (chosen spans c.in_ok-rows.ensures.same_reference (spans_of_fitting _ c.in_ok-rows.ensures.reads) c.in_ok-rows.ensures.reads)))
      (λ book b all doc shape number.
      fitting_by_spans book doc f n b shape (entry_is book doc ∙ number)
      ∙ ap (λ same. Some (n, same)) (sym (made
      ∙ ap₂ (λ component aircraft. list_any (begins_with n component aircraft f) c.in_ok-rows.rows.items) (c.or_zero.ensures ∙ ap or_zero all.0) (c.or_zero-2.ensures ∙ ap or_zero all.1.0)
      ∙ ap (list_any (begins_with n _ _ f)) all.1.1)))
      (λ _ all. named (ComponentNumber f.serial) (λ component. ByNumber (AircraftNumber f.tail) (Began n f component)) c.or_zero.ensures all.0 (named (AircraftNumber f.tail) (Began n f c.or_zero.result) c.or_zero-2.ensures all.1.0 (_, all.1.1, made)));
}

pub returns-in_err-aircraft : goal.returns-in_err-aircraft
returns-in_err-aircraft g c = record { looks_up = hands c.from_residual-in_err-aircraft.ensures.1 (λ _ _ it. inr (inl it.1)) (behind c.in_ok-component.ensures.looks_up.now c.in_err-aircraft.ensures.looks_up.now) }
