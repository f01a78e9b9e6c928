use Rattle.std.proofs.Common.{refl}
use Rattle.mx_book.specs.declared.commands.item.Item.TheVariants.{Airframe}
use Rattle.mx_book.specs.Judge.{earliest_takeoff}
use Rattle.mx_row_judge.proofs.ViewLemmas.{answers_by}
use Rattle.mx_lookups.proofs.NumbersProofs.ToldLemmas.{told_as}
use Rattle.mx_row_judge.specs.Damage.{by_clock}
use Rattle.mx_row_judge.proofs.view.RowsRecords.earliest_takeoff.Goals as goal

pub returns : goal.returns
returns g c =
    answers_by g.S.Store g.Q.Questions.answers_as g.Q.Questions.damage (λ book. earliest_takeoff book c.args.tail.now) _ _ _ _ (λ trees book answers. (g.Q.Questions.judged_as trees book answers).clock (Airframe c.args.tail.now))
    (record { tx = refl; conn = c.earliest_takeoff.ensures.looks_up.same_reference }) c.earliest_takeoff.ensures.looks_up.reads c.earliest_takeoff.ensures.looks_up.any_rows
    (told_as (λ name trees it. g.Q.Questions.told_by_judge name trees (by_clock (Airframe c.args.tail.now) it)) c.earliest_takeoff.ensures.looks_up.damage)
