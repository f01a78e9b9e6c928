use Rattle.std.proofs.Common.{rules, ◌∙◌, ◌++◌, ap, append_assoc, ℕ, List, Option, subst, arith}
use Rattle.sqlite.specs.State.{HasCleanDisk}
use Rattle.mx_book.specs.Run.{book_run}
use Rattle.mx_office.specs.Calls.{IsRun}
use Rattle.mx_office.specs.Office.{office_state}
use Rattle.mx_faults.specs.declared.fault.Fault.{Fault}
use Rattle.mx_lists.specs.Report.{report_of}
use Rattle.mx_lists.specs.declared.question.Question.TheVariants.{Life}
use Rattle.mx_output.specs.printed.Entered.{reply_lines}
use Rattle.mx_output.specs.printed.Listed.{list_answer}
use Rattle.mx_jobs.proofs.EnteredLemmas.{stands_behind}
use Rattle.mx_files.proofs.trying.try_commands.Goals as goal

pub returns-clause-exact : goal.returns-clause-exact
returns-clause-exact g c book ready stands clean =
    let commands = c.args.commands.now in
    let old = c.args.office.now in
    let mid = c.enter_all.new.office in
    let ran = c.in_ok-entered.ensures.ran in
    let run = subst (λ (stop : Option Fault). IsRun commands ran.0 stop old mid) ran.3.0 ran.2 in
    let asked = c.in_ok-asked.ensures in
    let early : HasCleanDisk (office_state mid) = let later = asked.asked.1.doubt.clean in omega (arith) in
    let told = c.in_ok-entered.ensures.exact book stands early in
    let listed = asked.exact (book_run book commands) (run.doubt.goes_on ready (λ same. cc)) (stands_behind book commands ran.0 old mid run stands) clean in
    record {
      text = listed.text ∙ ap (λ (text : List ℕ). text ++ list_answer (report_of (book_run book commands) (Life c.args.tail.now))) told.text
          ∙ append_assoc c.args.out.now.items (reply_lines book commands) (list_answer (report_of (book_run book commands) (Life c.args.tail.now)));
      ending_is = search rules;
    }
