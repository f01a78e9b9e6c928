use Rattle.std.proofs.Common.{refl}
use Rattle.mx_book.specs.Register.{has_room_for_aircraft}
use Rattle.mx_row_judge.proofs.ViewLemmas.{answers_by}
use Rattle.mx_lookups.proofs.NumbersProofs.ToldLemmas.{told_as}
use Rattle.mx_row_judge.specs.Damage.{by_room_for_aircraft}
use Rattle.mx_row_judge.proofs.view.RowsRecords.has_room_for_aircraft.Goals as goal

pub returns : goal.returns
returns g c =
    answers_by g.S.Store g.Q.Questions.answers_as g.Q.Questions.damage (λ book. has_room_for_aircraft book) _ _ _ _ (λ trees book answers. (g.Q.Questions.judged_as trees book answers).room_for_aircraft)
    (record { tx = refl; conn = c.has_room_for_aircraft.ensures.looks_up.same_reference }) c.has_room_for_aircraft.ensures.looks_up.reads c.has_room_for_aircraft.ensures.looks_up.any_rows
    (told_as (λ name trees it. g.Q.Questions.told_by_judge name trees (by_room_for_aircraft it)) c.has_room_for_aircraft.ensures.looks_up.damage)
