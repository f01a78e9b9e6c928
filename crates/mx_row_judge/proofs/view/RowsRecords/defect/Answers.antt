use Rattle.std.proofs.Common.{refl}
use Rattle.mx_book.specs.Defect.{defect}
use Rattle.mx_row_judge.proofs.ViewLemmas.{answers_by}
use Rattle.mx_lookups.proofs.NumbersProofs.ToldLemmas.{told_as}
use Rattle.mx_row_judge.specs.Damage.{by_defect}
use Rattle.mx_row_judge.proofs.view.RowsRecords.defect.Goals as goal

pub returns : goal.returns
returns g c =
    answers_by g.S.Store g.Q.Questions.answers_as g.Q.Questions.damage (λ book. defect book c.args.doc.now) _ _ _ _ (λ trees book answers. (g.Q.Questions.judged_as trees book answers).defect c.args.doc.now)
    (record { tx = refl; conn = c.defect.ensures.looks_up.same_reference }) c.defect.ensures.looks_up.reads c.defect.ensures.looks_up.any_rows
    (told_as (λ name trees it. g.Q.Questions.told_by_judge name trees (by_defect c.args.doc.now it)) c.defect.ensures.looks_up.damage)
