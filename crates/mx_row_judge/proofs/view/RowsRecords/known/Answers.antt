use Rattle.std.proofs.Common.{refl}
use Rattle.std.specs.Option.{option_map}
use Rattle.mx_book.specs.Asking.{known_same}
use Rattle.mx_book.specs.Judge.{known_from}
use Rattle.mx_row_judge.proofs.ViewLemmas.{answers_by}
use Rattle.mx_lookups.proofs.NumbersProofs.ToldLemmas.{told_as}
use Rattle.mx_row_judge.specs.Damage.{by_known}
use Rattle.mx_row_judge.proofs.view.RowsRecords.known.Goals as goal

pub returns : goal.returns
returns g c =
    answers_by g.S.Store g.Q.Questions.answers_as g.Q.Questions.damage (λ book. option_map (known_same c.args.command.now) (known_from c.args.command.now.doc 1 book)) _ _ _ _ (λ trees book answers. (g.Q.Questions.judged_as trees book answers).known c.args.command.now c.doc.ensures.shape)
    (record { tx = refl; conn = c.known.ensures.looks_up.same_reference }) c.known.ensures.looks_up.reads c.known.ensures.looks_up.any_rows
    (told_as (λ name trees it. g.Q.Questions.told_by_judge name trees (by_known c.args.command.now it)) c.known.ensures.looks_up.damage)
