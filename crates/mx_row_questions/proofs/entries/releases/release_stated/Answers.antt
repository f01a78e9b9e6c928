use Rattle.std.proofs.Common.{Option, Vec, sym, ap, ap₂, ◌∙◌}
use Rattle.std.specs.Prelude.{slice_get}
use Rattle.std.specs.Option.{option_and_then, option_map}
use Rattle.std.specs.declared.alloc.Global.{Global}
use Rattle.mx_book.specs.declared.commands.release.Line.{Line}
use Rattle.mx_registers.specs.Merge.{release_said}
use Rattle.mx_row_questions.specs.entries.Releases.{LinesStated, PlaceStated}
use Rattle.mx_lookups.proofs.NumbersProofs.ReadLemmas.{reads_then}
use Rattle.mx_row_questions.proofs.EntriesProofs.KindLemmas.{release_kind}
use Rattle.mx_row_questions.proofs.EntriesProofs.StatedLemmas.{any_both, it_said, it_said-any, none_said, none_said-any, unnamed, unread}
use Rattle.mx_row_questions.proofs.entries.releases.release_stated.Goals as goal

pub returns-in_err-rows-clause-reads : goal.returns-in_err-rows-clause-reads
returns-in_err-rows-clause-reads g c = unread (release_kind c.args.seq) c.from_residual.ensures.1 c.in_err-rows.ensures.reads

pub returns-in_err-at-clause-reads : goal.returns-in_err-at-clause-reads
returns-in_err-at-clause-reads g c = unnamed (release_kind c.args.seq) _ c.in_ok-rows.ensures.reads c.from_residual-in_err-at.ensures.1 c.in_err-at.ensures.reads

pub returns-in_err-certified-clause-reads : goal.returns-in_err-certified-clause-reads
returns-in_err-certified-clause-reads g c =
    unnamed (release_kind c.args.seq) _ c.in_ok-rows.ensures.reads c.from_residual-in_err-certified.ensures.1 (reads_then _ _ _ _ _ _ _ c.in_ok-at.ensures.reads c.in_err-certified.ensures.reads)

pub returns-in_default-clause-reads : goal.returns-in_default-clause-reads
returns-in_default-clause-reads g c = none_said (release_kind c.args.seq) (ap (λ l. slice_get l 0) (sym c.deref.ensures.value) ∙ sym c.in_default.ensures.value) c.in_ok-rows.ensures.reads

pub returns-in_default-clause-any_rows : goal.returns-in_default-clause-any_rows
returns-in_default-clause-any_rows g c = none_said-any (release_kind c.args.seq) (ap (λ l. slice_get l 0) (sym c.deref.ensures.value) ∙ sym c.in_default.ensures.value) c.in_ok-rows.ensures.reads

pub returns-clause-reads : goal.returns-clause-reads
returns-clause-reads g c =
    let row = c.in-Some.row.now in
    it_said (release_kind c.args.seq) _ c.in_ok-rows.ensures.reads row _ (ap (λ l. slice_get l 0) (sym c.deref.ensures.value) ∙ sym c.in-Some.ensures.value) (λ book named. c.release_named.ensures ∙ ap₂ (λ p ls. option_and_then (λ x. option_map (release_said row x) ls) p) named.0 named.1) (reads_then _ _ _ _ _ _ _ c.in_ok-at.ensures.reads c.in_ok-certified.ensures.reads)

pub returns-clause-any_rows : goal.returns-clause-any_rows
returns-clause-any_rows g c =
    let row = c.in-Some.row.now in
    it_said-any (release_kind c.args.seq) _ c.in_ok-rows.ensures.reads row _ _ (ap (λ l. slice_get l 0) (sym c.deref.ensures.value) ∙ sym c.in-Some.ensures.value) (λ trees named. (_, named.0, (_, named.1, c.release_named.ensures))) (reads_then _ _ _ _ _ _ _ c.in_ok-at.ensures.reads c.in_ok-certified.ensures.reads)
    (any_both _ (PlaceStated row) (λ trees (ls : Option (Vec Line Global)). LinesStated c.args.seq trees (option_map (λ v. v.items) ls)) _ _ _ _ _ c.in_ok-at.ensures.reads c.in_ok-at.ensures.any_rows c.in_ok-certified.ensures.reads.within c.in_ok-certified.ensures.any_rows)
