-- What a question for a list of an aircraft or of all prints.
use Rattle.std.specs.Prelude.{◌≡◌, ◌⊎◌, ℕ, List, ◌++◌, Option, Some, None, Result, Ok, Err}
use Rattle.mx_book.specs.commands.Act.{Entry}
use Rattle.mx_book.specs.declared.verdict.Refusal.{Refusal}
use Rattle.mx_book.specs.declared.verdict.Refusal.TheVariants.{UnknownAircraft}
use Rattle.mx_book.specs.declared.verdict.Reply.TheVariants as reply
use Rattle.mx_faults.specs.declared.fault.Ask.{Ask}
use Rattle.mx_faults.specs.declared.fault.Ask.TheVariants as ask
use Rattle.mx_reports.specs.ReplyText.{reply_line}
use Rattle.mx_lists.specs.Report.{IsOfKind, report_of}
use Rattle.mx_reports.specs.ReportText.{report_lines}
use Rattle.mx_output.specs.declared.endings.ending.Ending.{Ending}
use Rattle.mx_output.specs.declared.endings.ending.Ending.TheVariants.{Done, Refused}
use Rattle.mx_output.specs.declared.endings.ending.Stop.{Stop}
use Rattle.mx_output.specs.declared.endings.ending.Stop.TheVariants.{Office, Print}
use Rattle.mx_lists.specs.declared.question.Question.{Question}
use Rattle.mx_lists.specs.declared.report.Report.{Report}

-- the text of a list, or of the refusal where the registration is unknown
abbrev pub list_answer : Option Report → List ℕ
list_answer (Some list) = report_lines list
list_answer None = reply_line (reply.Refused UnknownAircraft)

-- how the question ends: refused where the registration is unknown
abbrev pub list_ending : Option Report → Ending
list_ending (Some list) = Done
list_ending None = Refused

-- the list of the book that is asked for, or the refusal, was appended, and the ending is its
pub record Tells (question : Question) (book : List Entry) (old new : List ℕ) (ending : Ending) : Type 0 where
  pub text : new ≡ old ++ list_answer (report_of book question)
  pub ending_is : ending ≡ list_ending (report_of book question)

-- What was appended of this answer of an office: its list or its refusal, and the ending says which; nothing where the office was stopped, or memory ran out for the text.
abbrev pub PrintsAnswer : List ℕ → List ℕ → Result Ending Stop → Result Report Ask → Type 0
PrintsAnswer old new (Ok ending) (Ok list) = (new ≡ old ++ report_lines list) × (ending ≡ Done)
PrintsAnswer old new (Ok ending) (Err (ask.Refused refusal)) = (new ≡ old ++ reply_line (reply.Refused refusal)) × (ending ≡ Refused)
PrintsAnswer old new (Ok ending) (Err (ask.Failed fault)) = ⊥
PrintsAnswer old new (Err (Office fault)) answer = (answer ≡ Err (ask.Failed fault)) × (new ≡ old)
PrintsAnswer old new (Err Print) answer = new ≡ old
PrintsAnswer old new (Err _) answer = ⊥

-- the text is some list of the kind that is asked for and all was done, or some refusal
abbrev pub IsListAnswer : Question → List ℕ → Ending → Type 0
IsListAnswer question text ending =
    ((list : Report) × IsOfKind question list × (text ≡ report_lines list) × (ending ≡ Done))
    ⊎ ((refusal : Refusal) × (text ≡ reply_line (reply.Refused refusal)) × (ending ≡ Refused))
