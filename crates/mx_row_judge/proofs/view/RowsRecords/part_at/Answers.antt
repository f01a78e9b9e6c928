use Rattle.std.proofs.Common.{refl}
use Rattle.mx_book.specs.Register.{part_at}
use Rattle.mx_row_judge.proofs.ViewLemmas.{answers_by}
use Rattle.mx_lookups.proofs.NumbersProofs.ToldLemmas.{told_as}
use Rattle.mx_row_judge.specs.Damage.{by_part_at}
use Rattle.mx_row_judge.proofs.view.RowsRecords.part_at.Goals as goal

pub returns : goal.returns
returns g c =
    answers_by g.S.Store g.Q.Questions.answers_as g.Q.Questions.damage (λ book. part_at book c.args.tail.now c.args.position.now) _ _ _ _ (λ trees book answers. (g.Q.Questions.judged_as trees book answers).part_at c.args.tail.now c.args.position.now)
    (record { tx = refl; conn = c.part_at.ensures.looks_up.same_reference }) c.part_at.ensures.looks_up.reads c.part_at.ensures.looks_up.any_rows
    (told_as (λ name trees it. g.Q.Questions.told_by_judge name trees (by_part_at c.args.tail.now it)) c.part_at.ensures.looks_up.damage)
