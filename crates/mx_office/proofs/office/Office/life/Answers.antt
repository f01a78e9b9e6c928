use Rattle.mx_book.specs.Life.{life_now}
use Rattle.mx_row_questions.specs.lists.Listing.{unknown}
use Rattle.mx_office.specs.Office.{office_state}
use Rattle.mx_office.proofs.LookLemmas.{damage_answered, life_says, question_answered}
use Rattle.mx_office.proofs.office.Office.life.Goals as goal

pub returns-clause-answered : goal.returns-clause-answered
returns-clause-answered g c =
    let item = c.args.item.now in
    rw c.question_answer-answer.ensures
    (question_answered _ _ (unknown item) (λ book. life_now book item) c.life_found.result c.life_found.ensures.looks (λ answer. life_says item (office_state c.args.self.now).now.trees answer))

pub returns-clause-damage : goal.returns-clause-damage
returns-clause-damage g c = rw c.question_answer-answer.ensures (damage_answered _ _ c.life_found.result c.life_found.ensures.damage)
