use Rattle.mx_book.specs.declared.verdict.Refusal.TheVariants.{UnknownAircraft}
use Rattle.mx_lists.specs.Report.{report_of}
use Rattle.mx_office.proofs.LookLemmas.{damage_answered, question_answered}
use Rattle.mx_office.proofs.QuestionLemmas.{kind_answered}
use Rattle.mx_office.proofs.office.Office.list.Goals as goal

pub returns-clause-answered : goal.returns-clause-answered
returns-clause-answered g c =
    rw c.question_answer-answer.ensures
    (question_answered _ _ UnknownAircraft (λ book. report_of book c.args.question.now) c.list_found.result c.list_found.ensures.finds (λ answer is. is))

pub returns-clause-kind : goal.returns-clause-kind
returns-clause-kind g c = rw c.question_answer-answer.ensures (kind_answered c.args.question.now c.list_found.result c.list_found.ensures.kind)

pub returns-clause-damage : goal.returns-clause-damage
returns-clause-damage g c = rw c.question_answer-answer.ensures (damage_answered _ _ c.list_found.result c.list_found.ensures.damage)
