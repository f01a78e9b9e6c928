use Rattle.std.proofs.Common.{refl}
use Rattle.mx_lists.specs.Inventory.{place_fitted}
use Rattle.mx_row_judge.specs.Answering.{AnswerListsAs}
use Rattle.mx_row_judge.proofs.ViewLemmas.{answers_by}
use Rattle.mx_lookups.proofs.NumbersProofs.ToldLemmas.{told_as}
use Rattle.mx_row_judge.specs.Damage.{ListDamage, by_place}
use Rattle.mx_row_judge.proofs.lists.RowsListQuestionsListRecords.place.Goals as goal

pub returns : goal.returns
returns g c =
    answers_by g.S.Store AnswerListsAs ListDamage (λ book. place_fitted book c.args.serial.now) _ _ _ _ (λ trees book answers. answers.place c.args.serial.now) (record { tx = refl; conn = c.place_fitted.ensures.looks_up.same_reference }) c.place_fitted.ensures.looks_up.reads
    c.place_fitted.ensures.looks_up.any_rows
    (told_as (λ name trees it. by_place c.args.serial.now it) c.place_fitted.ensures.looks_up.damage)
