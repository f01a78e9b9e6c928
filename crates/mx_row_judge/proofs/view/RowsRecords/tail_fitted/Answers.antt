use Rattle.std.proofs.Common.{refl}
use Rattle.mx_book.specs.Span.{tail_fitted}
use Rattle.mx_row_judge.proofs.ViewLemmas.{answers_by}
use Rattle.mx_lookups.proofs.NumbersProofs.ToldLemmas.{told_as}
use Rattle.mx_row_judge.specs.Damage.{by_tail_fitted}
use Rattle.mx_row_judge.proofs.view.RowsRecords.tail_fitted.Goals as goal

pub returns : goal.returns
returns g c =
    answers_by g.S.Store g.Q.Questions.answers_as g.Q.Questions.damage (λ book. tail_fitted book c.args.serial.now) _ _ _ _ (λ trees book answers. (g.Q.Questions.judged_as trees book answers).tail_fitted c.args.serial.now)
    (record { tx = refl; conn = c.tail_fitted.ensures.looks_up.same_reference }) c.tail_fitted.ensures.looks_up.reads c.tail_fitted.ensures.looks_up.any_rows
    (told_as (λ name trees it. g.Q.Questions.told_by_judge name trees (by_tail_fitted c.args.serial.now it)) c.tail_fitted.ensures.looks_up.damage)
