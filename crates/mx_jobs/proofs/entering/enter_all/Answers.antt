use Rattle.std.proofs.Common.{rules, ◌≡◌, ◌∙◌, ◌++◌, ap, subst, List, None, Option}
use Rattle.mx_book.specs.declared.verdict.Reply.{Reply}
use Rattle.mx_office.specs.Calls.{IsRun}
use Rattle.mx_faults.specs.declared.fault.Fault.{Fault}
use Rattle.mx_reports.specs.Replies.{lines_of}
use Rattle.mx_output.specs.endings.Status.{run_ending}
use Rattle.mx_jobs.proofs.EnteredLemmas.{told_by_book}
use Rattle.mx_jobs.proofs.entering.enter_all.Goals as goal

pub returns-in_err-print_replies-clause-ran : goal.returns-in_err-print_replies-clause-ran
returns-in_err-print_replies-clause-ran g c = (c.run-outcomes.result.replies.items, c.run-outcomes.result.stopped, c.run-outcomes.ensures, search rules)

pub returns-in-Some-clause-ran : goal.returns-in-Some-clause-ran
returns-in-Some-clause-ran g c =
    (c.run-outcomes.result.replies.items, c.run-outcomes.result.stopped, c.run-outcomes.ensures, (search rules, c.in_ok-print_replies.ensures.printed ∙ ap (λ (given : List Reply). c.args.out.now.items ++ lines_of given) c.as_slice.ensures.value))

pub returns-clause-ran : goal.returns-clause-ran
returns-clause-ran g c = (
  c.run-outcomes.result.replies.items,
  c.run-outcomes.result.stopped,
  c.run-outcomes.ensures,
  (
    search rules,
    c.in_ok-print_replies.ensures.printed ∙ ap (λ (given : List Reply). c.args.out.now.items ++ lines_of given) c.as_slice.ensures.value,
    c.ending_of.ensures ∙ ap run_ending c.as_slice-in-None.ensures.value,
  ),
)

pub returns-clause-exact : goal.returns-clause-exact
returns-clause-exact g c book stands clean =
    let said = c.run-outcomes.result.replies.items in
    let none : c.run-outcomes.result.stopped ≡ None = search rules in
    told_by_book book c.args.commands.now said c.args.office.now c.run-outcomes.new.self (subst (λ (stop : Option Fault). IsRun c.args.commands.now said stop c.args.office.now c.run-outcomes.new.self) none c.run-outcomes.ensures) stands clean _ _ _
    (c.in_ok-print_replies.ensures.printed ∙ ap (λ (given : List Reply). c.args.out.now.items ++ lines_of given) c.as_slice.ensures.value) (c.ending_of.ensures ∙ ap run_ending c.as_slice-in-None.ensures.value)
