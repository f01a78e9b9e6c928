use Rattle.std.proofs.Common.{Some, None, sym, ap, ◌∙◌}
use Rattle.std.specs.Prelude.{slice_get}
use Rattle.std.specs.List.{filter_map}
use Rattle.std.specs.Option.{option_map}
use Rattle.mx_registers.specs.Merge.{removal_said}
use Rattle.mx_registers.specs.kept.Spans.{removal_in}
use Rattle.mx_row_questions.proofs.EntriesProofs.KindLemmas.{removal_kind}
use Rattle.mx_row_questions.proofs.EntriesProofs.StatedLemmas.{it_said, it_said-any, none_said, none_said-any, unnamed, unread}
use Rattle.mx_row_questions.proofs.entries.kinds.removal_stated.Goals as goal

pub returns-in_err-spans-clause-reads : goal.returns-in_err-spans-clause-reads
returns-in_err-spans-clause-reads g c = unread (removal_kind c.args.seq) c.from_residual.ensures.1 c.in_err-spans.ensures.reads

pub returns-in_err-named-clause-reads : goal.returns-in_err-named-clause-reads
returns-in_err-named-clause-reads g c = unnamed (removal_kind c.args.seq) _ c.in_ok-spans.ensures.reads c.from_residual-in_err-named.ensures.1 c.in_err-named.ensures.looks_up.reads

pub returns-in_default-clause-reads : goal.returns-in_default-clause-reads
returns-in_default-clause-reads g c = none_said (removal_kind c.args.seq) (ap (λ l. slice_get (filter_map removal_in l) 0) (sym c.deref.ensures.value) ∙ sym c.in_default.ensures) c.in_ok-spans.ensures.reads

pub returns-in_default-clause-any_rows : goal.returns-in_default-clause-any_rows
returns-in_default-clause-any_rows g c = none_said-any (removal_kind c.args.seq) (ap (λ l. slice_get (filter_map removal_in l) 0) (sym c.deref.ensures.value) ∙ sym c.in_default.ensures) c.in_ok-spans.ensures.reads

pub returns-in-Some-named-clause-reads : goal.returns-in-Some-named-clause-reads
returns-in-Some-named-clause-reads g c =
    let row = c.in-Some.row in
    it_said (removal_kind c.args.seq) _ c.in_ok-spans.ensures.reads row _ (ap (λ l. slice_get (filter_map removal_in l) 0) (sym c.deref.ensures.value) ∙ sym c.in-Some.ensures) (λ book named. ap Some c.body_of_removal.ensures ∙ ap (option_map (removal_said row)) (sym c.in-Some-named.is ∙ named)) c.in_ok-named.ensures.looks_up.reads

pub returns-in-Some-named-clause-any_rows : goal.returns-in-Some-named-clause-any_rows
returns-in-Some-named-clause-any_rows g c =
    let row = c.in-Some.row in
    it_said-any (removal_kind c.args.seq) _ c.in_ok-spans.ensures.reads row _ _ (ap (λ l. slice_get (filter_map removal_in l) 0) (sym c.deref.ensures.value) ∙ sym c.in-Some.ensures) (λ trees named. (_, named, ap Some c.body_of_removal.ensures ∙ ap (option_map (removal_said row)) (sym c.in-Some-named.is))) c.in_ok-named.ensures.looks_up.reads c.in_ok-named.ensures.looks_up.any_rows

pub returns-clause-reads : goal.returns-clause-reads
returns-clause-reads g c =
    let row = c.in-Some.row in
    it_said (removal_kind c.args.seq) _ c.in_ok-spans.ensures.reads row None (ap (λ l. slice_get (filter_map removal_in l) 0) (sym c.deref.ensures.value) ∙ sym c.in-Some.ensures) (λ book named. ap (option_map (removal_said row)) (sym c.in-None.is ∙ named)) c.in_ok-named.ensures.looks_up.reads

pub returns-clause-any_rows : goal.returns-clause-any_rows
returns-clause-any_rows g c =
    let row = c.in-Some.row in
    it_said-any (removal_kind c.args.seq) _ c.in_ok-spans.ensures.reads row None _ (ap (λ l. slice_get (filter_map removal_in l) 0) (sym c.deref.ensures.value) ∙ sym c.in-Some.ensures) (λ trees named. (_, named, ap (option_map (removal_said row)) (sym c.in-None.is))) c.in_ok-named.ensures.looks_up.reads c.in_ok-named.ensures.looks_up.any_rows
