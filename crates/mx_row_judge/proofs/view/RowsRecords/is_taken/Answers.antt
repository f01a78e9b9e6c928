use Rattle.std.proofs.Common.{refl}
use Rattle.mx_book.specs.Span.{is_taken}
use Rattle.mx_row_judge.proofs.ViewLemmas.{answers_by}
use Rattle.mx_lookups.proofs.NumbersProofs.ToldLemmas.{told_as}
use Rattle.mx_row_judge.specs.Damage.{by_is_taken}
use Rattle.mx_row_judge.proofs.view.RowsRecords.is_taken.Goals as goal

pub returns : goal.returns
returns g c =
    answers_by g.S.Store g.Q.Questions.answers_as g.Q.Questions.damage (λ book. is_taken book c.args.tail.now c.args.position.now) _ _ _ _ (λ trees book answers. (g.Q.Questions.judged_as trees book answers).is_taken c.args.tail.now c.args.position.now)
    (record { tx = refl; conn = c.is_taken.ensures.looks_up.same_reference }) c.is_taken.ensures.looks_up.reads c.is_taken.ensures.looks_up.any_rows
    (told_as (λ name trees it. g.Q.Questions.told_by_judge name trees (by_is_taken c.args.tail.now it)) c.is_taken.ensures.looks_up.damage)
