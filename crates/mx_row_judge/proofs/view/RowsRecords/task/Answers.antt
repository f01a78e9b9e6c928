use Rattle.std.proofs.Common.{refl}
use Rattle.mx_book.specs.Asking.{task_of}
use Rattle.mx_row_judge.proofs.ViewLemmas.{answers_by}
use Rattle.mx_lookups.proofs.NumbersProofs.ToldLemmas.{told_as}
use Rattle.mx_row_judge.specs.Damage.{by_task}
use Rattle.mx_row_judge.proofs.view.RowsRecords.task.Goals as goal

pub returns-clause-answers : goal.returns-clause-answers
returns-clause-answers g c =
    answers_by g.S.Store g.Q.Questions.answers_as g.Q.Questions.damage (λ book. task_of book c.args.kind.now c.args.id.now) _ _ _ _ (λ trees book answers. (g.Q.Questions.judged_as trees book answers).task c.args.kind.now c.args.id.now)
    (record { tx = refl; conn = c.task.ensures.looks_up.same_reference }) c.task.ensures.looks_up.reads c.task.ensures.looks_up.any_rows
    (told_as (λ name trees it. g.Q.Questions.told_by_judge name trees (by_task c.args.kind.now it)) c.task.ensures.looks_up.damage)
