use Rattle.std.proofs.Common.{Some, None, sym, ap, ◌∙◌}
use Rattle.std.specs.Prelude.{slice_get}
use Rattle.std.specs.Option.{option_map}
use Rattle.mx_registers.specs.Merge.{deferral_said}
use Rattle.mx_row_questions.proofs.EntriesProofs.KindLemmas.{deferral_kind}
use Rattle.mx_row_questions.proofs.EntriesProofs.StatedLemmas.{it_said, it_said-any, none_said, none_said-any, unnamed, unread}
use Rattle.mx_row_questions.proofs.entries.kinds.deferral_stated.Goals as goal

pub returns-in_err-rows-clause-reads : goal.returns-in_err-rows-clause-reads
returns-in_err-rows-clause-reads g c = unread (deferral_kind c.args.seq) c.from_residual.ensures.1 c.in_err-rows.ensures.reads

pub returns-in_err-named-clause-reads : goal.returns-in_err-named-clause-reads
returns-in_err-named-clause-reads g c = unnamed (deferral_kind c.args.seq) _ c.in_ok-rows.ensures.reads c.from_residual-in_err-named.ensures.1 c.in_err-named.ensures.looks_up.now.reads

pub returns-in_default-clause-reads : goal.returns-in_default-clause-reads
returns-in_default-clause-reads g c = none_said (deferral_kind c.args.seq) (ap (λ l. slice_get l 0) (sym c.deref.ensures.value) ∙ sym c.in_default.ensures.value) c.in_ok-rows.ensures.reads

pub returns-in_default-clause-any_rows : goal.returns-in_default-clause-any_rows
returns-in_default-clause-any_rows g c = none_said-any (deferral_kind c.args.seq) (ap (λ l. slice_get l 0) (sym c.deref.ensures.value) ∙ sym c.in_default.ensures.value) c.in_ok-rows.ensures.reads

pub returns-in-Some-named-clause-reads : goal.returns-in-Some-named-clause-reads
returns-in-Some-named-clause-reads g c =
    let row = c.in-Some.row.now in
    it_said (deferral_kind c.args.seq) _ c.in_ok-rows.ensures.reads row _ (ap (λ l. slice_get l 0) (sym c.deref.ensures.value) ∙ sym c.in-Some.ensures.value) (λ book named. ap Some c.body_of_deferral.ensures ∙ ap (option_map (deferral_said row)) (sym c.in-Some-named.is ∙ named)) c.in_ok-named.ensures.looks_up.now.reads

pub returns-in-Some-named-clause-any_rows : goal.returns-in-Some-named-clause-any_rows
returns-in-Some-named-clause-any_rows g c =
    let row = c.in-Some.row.now in
    it_said-any (deferral_kind c.args.seq) _ c.in_ok-rows.ensures.reads row _ _ (ap (λ l. slice_get l 0) (sym c.deref.ensures.value) ∙ sym c.in-Some.ensures.value) (λ trees named. (_, named, ap Some c.body_of_deferral.ensures ∙ ap (option_map (deferral_said row)) (sym c.in-Some-named.is))) c.in_ok-named.ensures.looks_up.now.reads c.in_ok-named.ensures.looks_up.now.any_rows

pub returns-clause-reads : goal.returns-clause-reads
returns-clause-reads g c =
    let row = c.in-Some.row.now in
    it_said (deferral_kind c.args.seq) _ c.in_ok-rows.ensures.reads row None (ap (λ l. slice_get l 0) (sym c.deref.ensures.value) ∙ sym c.in-Some.ensures.value) (λ book named. ap (option_map (deferral_said row)) (sym c.in-None.is ∙ named)) c.in_ok-named.ensures.looks_up.now.reads

pub returns-clause-any_rows : goal.returns-clause-any_rows
returns-clause-any_rows g c =
    let row = c.in-Some.row.now in
    it_said-any (deferral_kind c.args.seq) _ c.in_ok-rows.ensures.reads row None _ (ap (λ l. slice_get l 0) (sym c.deref.ensures.value) ∙ sym c.in-Some.ensures.value) (λ trees named. (_, named, ap (option_map (deferral_said row)) (sym c.in-None.is))) c.in_ok-named.ensures.looks_up.now.reads c.in_ok-named.ensures.looks_up.now.any_rows
