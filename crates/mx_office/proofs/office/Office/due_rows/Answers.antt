use Rattle.std.proofs.Common.{Ok, Err}
use Rattle.mx_book.specs.declared.verdict.Refusal.TheVariants.{UnknownAircraft}
use Rattle.mx_lists.specs.DueList.{due_list}
use Rattle.mx_lists.specs.declared.report.Report.TheVariants.{Due}
use Rattle.mx_office.proofs.QuestionLemmas.{answered_of, damage_of_answer}
use Rattle.mx_office.proofs.office.Office.due_rows.Goals as goal

pub returns-in-Ok-Due-clause-answered : goal.returns-in-Ok-Due-clause-answered
returns-in-Ok-Due-clause-answered g c =
    answered_of Due (λ x y e. cc) c.args.self.now c.list.new.self (Ok c.in-Ok-Due.list) UnknownAircraft (λ book. due_list book c.args.tail c.args.day) (rw c.in-Ok-Due.field-0-is at c.in-Ok-Due.ensures.answered)

pub returns-in-Err-clause-answered : goal.returns-in-Err-clause-answered
returns-in-Err-clause-answered g c = answered_of Due (λ x y e. cc) c.args.self.now c.list.new.self (Err c.in-Err.why) UnknownAircraft (λ book. due_list book c.args.tail c.args.day) c.in-Err.ensures.answered

pub returns-in-Err-clause-damage : goal.returns-in-Err-clause-damage
returns-in-Err-clause-damage g c = damage_of_answer Due (λ x y e. cc) c.args.self.now c.list.new.self (Err c.in-Err.why) c.in-Err.ensures.damage
