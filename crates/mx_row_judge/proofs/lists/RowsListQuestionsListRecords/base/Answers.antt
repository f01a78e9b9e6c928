use Rattle.std.proofs.Common.{refl}
use Rattle.mx_book.specs.Base.{base}
use Rattle.mx_row_judge.specs.Answering.{AnswerListsAs}
use Rattle.mx_row_judge.proofs.ViewLemmas.{answers_by}
use Rattle.mx_lookups.proofs.NumbersProofs.ToldLemmas.{told_as}
use Rattle.mx_row_judge.specs.Damage.{ListDamage, by_base}
use Rattle.mx_row_judge.proofs.lists.RowsListQuestionsListRecords.base.Goals as goal

pub returns-clause-answers : goal.returns-clause-answers
returns-clause-answers g c =
    answers_by g.S.Store AnswerListsAs ListDamage (λ book. base book c.args.item.now c.args.task.now) _ _ _ _ (λ trees book answers. answers.base c.args.item.now c.args.task.now) (record { tx = refl; conn = c.base.ensures.looks_up.same_reference }) c.base.ensures.looks_up.reads
    c.base.ensures.looks_up.any_rows
    (told_as (λ name trees it. by_base c.args.item.now c.args.task.now it) c.base.ensures.looks_up.damage)
