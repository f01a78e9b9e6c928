use Rattle.std.proofs.Common.{refl}
use Rattle.mx_book.specs.Life.{life_now}
use Rattle.mx_row_judge.specs.Answering.{AnswerListsAs}
use Rattle.mx_row_judge.proofs.ViewLemmas.{answers_by}
use Rattle.mx_lookups.proofs.NumbersProofs.ToldLemmas.{told_as}
use Rattle.mx_row_judge.specs.Damage.{ListDamage, by_life}
use Rattle.mx_row_judge.proofs.lists.RowsListQuestionsListRecords.life.Goals as goal

pub returns : goal.returns
returns g c =
    answers_by g.S.Store AnswerListsAs ListDamage (λ book. life_now book c.args.item.now) _ _ _ _ (λ trees book answers. answers.life c.args.item.now) (record { tx = refl; conn = c.life.ensures.looks_up.same_reference }) c.life.ensures.looks_up.reads
    c.life.ensures.looks_up.any_rows
    (told_as (λ name trees it. by_life c.args.item.now it) c.life.ensures.looks_up.damage)
