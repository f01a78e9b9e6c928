use Rattle.std.proofs.Common.{refl}
use Rattle.mx_book.specs.Programme.{next_revision}
use Rattle.mx_row_judge.proofs.ViewLemmas.{answers_by}
use Rattle.mx_lookups.proofs.NumbersProofs.ToldLemmas.{told_as}
use Rattle.mx_row_judge.specs.Damage.{by_next_revision}
use Rattle.mx_row_judge.proofs.view.RowsRecords.next_revision.Goals as goal

pub returns : goal.returns
returns g c =
    answers_by g.S.Store g.Q.Questions.answers_as g.Q.Questions.damage (λ book. next_revision book c.args.kind.now) _ _ _ _ (λ trees book answers. (g.Q.Questions.judged_as trees book answers).next_revision c.args.kind.now)
    (record { tx = refl; conn = c.next_revision.ensures.looks_up.same_reference }) c.next_revision.ensures.looks_up.reads c.next_revision.ensures.looks_up.any_rows
    (told_as (λ name trees it. g.Q.Questions.told_by_judge name trees (by_next_revision c.args.kind.now it)) c.next_revision.ensures.looks_up.damage)
