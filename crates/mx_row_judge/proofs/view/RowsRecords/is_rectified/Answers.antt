use Rattle.std.proofs.Common.{refl}
use Rattle.mx_book.specs.Defect.{is_rectified}
use Rattle.mx_row_judge.proofs.ViewLemmas.{answers_by}
use Rattle.mx_lookups.proofs.NumbersProofs.ToldLemmas.{told_as}
use Rattle.mx_row_judge.specs.Damage.{by_is_rectified}
use Rattle.mx_row_judge.proofs.view.RowsRecords.is_rectified.Goals as goal

pub returns : goal.returns
returns g c =
    answers_by g.S.Store g.Q.Questions.answers_as g.Q.Questions.damage (λ book. is_rectified book c.args.doc.now) _ _ _ _ (λ trees book answers. (g.Q.Questions.judged_as trees book answers).is_rectified c.args.doc.now)
    (record { tx = refl; conn = c.is_rectified.ensures.looks_up.same_reference }) c.is_rectified.ensures.looks_up.reads c.is_rectified.ensures.looks_up.any_rows
    (told_as (λ name trees it. g.Q.Questions.told_by_judge name trees (by_is_rectified c.args.doc.now it)) c.is_rectified.ensures.looks_up.damage)
