use Rattle.std.proofs.Common.{◌≡◌, refl}
use Rattle.std.specs.Prelude.{Some, length}
use Rattle.mx_layout.specs.kept.Cells.{kept_entry}
use Rattle.mx_table_rows.specs.chosen.Choices.{backward, is_any}
use Rattle.mx_row_rules.specs.found.Names.{last_number}
use Rattle.mx_lookups.specs.numbers.AnyRows.{GivesFirst}
use Rattle.mx_lookups.proofs.NumbersProofs.AnyLemmas.{silent}
use Rattle.mx_lookups.proofs.NumbersProofs.ReadLemmas.{stopped}
use Rattle.mx_row_judge.proofs.ViewLemmas.{answers_by}
use Rattle.mx_lookups.proofs.NumbersProofs.ToldLemmas.{handed}
use Rattle.mx_row_judge.specs.Damage.{by_entry_count}
use Rattle.mx_row_judge.proofs.view.RowsRecords.entry_count.Goals as goal

pub returns-in_err-count : goal.returns-in_err-count
returns-in_err-count g c =
    answers_by g.S.Store g.Q.Questions.answers_as g.Q.Questions.damage (λ book. length book) _ _ c.from_residual.result _ (λ trees book answers. (g.Q.Questions.judged_as trees book answers).entry_count) (record { tx = refl; conn = c.in_err-count.ensures.looks_up.same_reference })
    (stopped (λ book n. n ≡ length book) (λ book n. n ≡ length book) _ _ c.in_err-count.field-0.0 c.from_residual.result c.from_residual.ensures.1 c.in_err-count.ensures.looks_up.reads)
    (silent (GivesFirst kept_entry (Some 1) (backward kept_entry.order) is_any last_number) _ _ _ _ c.from_residual.ensures.1)
    (handed (λ name trees it. g.Q.Questions.told_by_judge name trees (by_entry_count it)) c.from_residual.ensures.1 c.in_err-count.ensures.looks_up.damage)

pub returns : goal.returns
returns g c =
    answers_by g.S.Store g.Q.Questions.answers_as g.Q.Questions.damage (λ book. length book) _ _ _ _ (λ trees book answers. (g.Q.Questions.judged_as trees book answers).entry_count) (record { tx = refl; conn = c.in_ok-count.ensures.looks_up.same_reference })
    c.in_ok-count.ensures.looks_up.reads c.in_ok-count.ensures.looks_up.any_rows
    (record { told = λ clean has name is. absurd cc })
