use Rattle.std.proofs.Common.{refl}
use Rattle.mx_book.specs.Defect.{extension}
use Rattle.mx_row_judge.proofs.ViewLemmas.{answers_by}
use Rattle.mx_lookups.proofs.NumbersProofs.ToldLemmas.{told_as}
use Rattle.mx_row_judge.specs.Damage.{by_extension}
use Rattle.mx_row_judge.proofs.view.RowsRecords.extension.Goals as goal

pub returns : goal.returns
returns g c =
    answers_by g.S.Store g.Q.Questions.answers_as g.Q.Questions.damage (λ book. extension book c.args.doc.now) _ _ _ _ (λ trees book answers. (g.Q.Questions.judged_as trees book answers).extension c.args.doc.now)
    (record { tx = refl; conn = c.extension.ensures.looks_up.same_reference }) c.extension.ensures.looks_up.reads c.extension.ensures.looks_up.any_rows
    (told_as (λ name trees it. g.Q.Questions.told_by_judge name trees (by_extension c.args.doc.now it)) c.extension.ensures.looks_up.damage)
