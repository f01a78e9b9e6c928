use Rattle.std.proofs.Common.{subst, Err}
use Rattle.mx_book.specs.declared.verdict.Refusal.TheVariants.{UnknownAircraft}
use Rattle.mx_faults.specs.declared.fault.Ask.{Ask}
use Rattle.mx_office.specs.Faults.{found_or, IsAnswer}
use Rattle.mx_office.specs.Layout.{office_schema}
use Rattle.mx_office.proofs.StandsLemmas.{own_settled}
use Rattle.mx_lists.specs.Report.{report_of}
use Rattle.mx_jobs.proofs.AnswersProofs.ListLemmas.{shown_report, tells_refusal, tells_report}
use Rattle.mx_jobs.proofs.answers.listing.print_list.Goals as goal

pub returns-in-Ok-clause-shown : goal.returns-in-Ok-clause-shown
returns-in-Ok-clause-shown g c =
    shown_report c.args.question.now c.in-Ok.report c.args.out.now.items c.append_report.new.out.items c.append_report.result
    c.in-Ok.ensures.kind c.append_report.ensures.printed c.append_report.ensures.ending

pub returns-in-Ok-clause-exact : goal.returns-in-Ok-clause-exact
returns-in-Ok-clause-exact g c = λ book ready stands clean.
    tells_report c.args.question.now book c.in-Ok.report c.args.out.now.items c.append_report.new.out.items c.append_report.result
    (c.in-Ok.ensures.answered.exact office_schema own_settled book ready stands clean) c.append_report.ensures.printed c.append_report.ensures.ending

pub returns-in-Err-Refused-clause-exact : goal.returns-in-Err-Refused-clause-exact
returns-in-Err-Refused-clause-exact g c = λ book ready stands clean.
    tells_refusal c.args.question.now book c.in-Err-Refused.refusal c.args.out.now.items c.append_refusal.new.out.items c.append_refusal.result
    (subst (λ (why : Ask). IsAnswer (found_or UnknownAircraft (report_of book c.args.question.now)) (Err why)) c.in-Err-Refused.field-0-is (c.in-Err-Refused.ensures.answered.exact office_schema own_settled book ready stands clean))
    c.append_refusal.ensures.printed c.append_refusal.ensures.ending
