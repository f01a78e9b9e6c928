use Rattle.std.proofs.Common.{map, sym, ap, ap₂, ◌∙◌}
use Rattle.std.specs.Prelude.{slice_get}
use Rattle.std.specs.Option.{option_and_then, option_map}
use Rattle.mx_registers.specs.Merge.{fitting_said}
use Rattle.mx_registers.specs.kept.Spans.{fitting_in}
use Rattle.mx_lookups.specs.numbers.Given.{SerialOfNumber, TailOfNumber}
use Rattle.mx_lookups.proofs.NumbersProofs.ReadLemmas.{reads_then}
use Rattle.mx_row_questions.proofs.EntriesProofs.KindLemmas.{fitting_kind}
use Rattle.mx_row_questions.proofs.EntriesProofs.StatedLemmas.{any_both, it_said, it_said-any, none_said, none_said-any, unnamed, unread}
use Rattle.mx_row_questions.proofs.entries.kinds.fitting_stated.Goals as goal

pub returns-in_err-spans-clause-reads : goal.returns-in_err-spans-clause-reads
returns-in_err-spans-clause-reads g c = unread (fitting_kind c.args.seq) c.from_residual.ensures.1 c.in_err-spans.ensures.reads

pub returns-in_err-fitted-clause-reads : goal.returns-in_err-fitted-clause-reads
returns-in_err-fitted-clause-reads g c = unnamed (fitting_kind c.args.seq) _ c.in_ok-spans.ensures.reads c.from_residual-in_err-fitted.ensures.1 c.in_err-fitted.ensures.looks_up.reads

pub returns-in_err-named-clause-reads : goal.returns-in_err-named-clause-reads
returns-in_err-named-clause-reads g c =
    unnamed (fitting_kind c.args.seq) _ c.in_ok-spans.ensures.reads c.from_residual-in_err-named.ensures.1 (reads_then _ _ _ _ _ _ _ c.in_ok-fitted.ensures.looks_up.reads c.in_err-named.ensures.looks_up.now.reads)

pub returns-in_default-clause-reads : goal.returns-in_default-clause-reads
returns-in_default-clause-reads g c = none_said (fitting_kind c.args.seq) (ap (λ l. slice_get (map fitting_in l) 0) (sym c.deref.ensures.value) ∙ sym c.in_default.ensures) c.in_ok-spans.ensures.reads

pub returns-in_default-clause-any_rows : goal.returns-in_default-clause-any_rows
returns-in_default-clause-any_rows g c = none_said-any (fitting_kind c.args.seq) (ap (λ l. slice_get (map fitting_in l) 0) (sym c.deref.ensures.value) ∙ sym c.in_default.ensures) c.in_ok-spans.ensures.reads

pub returns-clause-reads : goal.returns-clause-reads
returns-clause-reads g c =
    let row = c.in-Some.row in
    it_said (fitting_kind c.args.seq) _ c.in_ok-spans.ensures.reads row _ (ap (λ l. slice_get (map fitting_in l) 0) (sym c.deref.ensures.value) ∙ sym c.in-Some.ensures) (λ book named. c.fitting_named.ensures ∙ ap₂ (λ s t. option_and_then (λ x. option_map (fitting_said row x) t) s) named.0 named.1) (reads_then _ _ _ _ _ _ _ c.in_ok-fitted.ensures.looks_up.reads c.in_ok-named.ensures.looks_up.now.reads)

pub returns-clause-any_rows : goal.returns-clause-any_rows
returns-clause-any_rows g c =
    let row = c.in-Some.row in
    it_said-any (fitting_kind c.args.seq) _ c.in_ok-spans.ensures.reads row _ _ (ap (λ l. slice_get (map fitting_in l) 0) (sym c.deref.ensures.value) ∙ sym c.in-Some.ensures) (λ trees named. (_, named.0, (_, named.1, c.fitting_named.ensures))) (reads_then _ _ _ _ _ _ _ c.in_ok-fitted.ensures.looks_up.reads c.in_ok-named.ensures.looks_up.now.reads)
    (any_both _ (SerialOfNumber row.component) (TailOfNumber row.aircraft) _ _ _ _ _ c.in_ok-fitted.ensures.looks_up.reads c.in_ok-fitted.ensures.looks_up.any_rows c.in_ok-named.ensures.looks_up.now.reads.within c.in_ok-named.ensures.looks_up.now.any_rows)
