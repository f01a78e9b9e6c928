use Rattle.std.proofs.Common.{refl}
use Rattle.mx_book.specs.Life.{clock}
use Rattle.mx_row_judge.proofs.ViewLemmas.{answers_by}
use Rattle.mx_lookups.proofs.NumbersProofs.ToldLemmas.{told_as}
use Rattle.mx_row_judge.specs.Damage.{by_clock}
use Rattle.mx_row_judge.proofs.view.RowsRecords.clock.Goals as goal

pub returns : goal.returns
returns g c =
    answers_by g.S.Store g.Q.Questions.answers_as g.Q.Questions.damage (λ book. clock book c.args.item.now) _ _ _ _ (λ trees book answers. (g.Q.Questions.judged_as trees book answers).clock c.args.item.now)
    (record { tx = refl; conn = c.clock.ensures.looks_up.same_reference }) c.clock.ensures.looks_up.reads c.clock.ensures.looks_up.any_rows
    (told_as (λ name trees it. g.Q.Questions.told_by_judge name trees (by_clock c.args.item.now it)) c.clock.ensures.looks_up.damage)
