-- What is printed of an answer of the office.
use Rattle.std.proofs.Common.{◌≡◌, refl, sym, ap, ◌∙◌, inl, inr, ℕ, List, ◌++◌, Option, Some, None, Result, Ok, Err, OnOk, IfOk}
use Rattle.mx_book.specs.commands.Act.{Entry}
use Rattle.mx_book.specs.declared.verdict.Refusal.{Refusal}
use Rattle.mx_book.specs.declared.verdict.Refusal.TheVariants.{UnknownAircraft}
use Rattle.mx_book.specs.declared.verdict.Reply.TheVariants as reply
use Rattle.mx_faults.specs.declared.fault.Ask.TheVariants.{Refused}
use Rattle.mx_office.specs.Faults.{found_or, IsAnswer}
use Rattle.mx_reports.specs.ReplyText.{reply_line}
use Rattle.mx_output.specs.printed.Listed.{IsListAnswer, Tells, list_answer, list_ending}
use Rattle.mx_lists.specs.Report.{IsOfKind, report_of}
use Rattle.mx_reports.specs.ReportText.{report_lines}
use Rattle.mx_output.specs.declared.endings.ending.Ending.{Ending}
use Rattle.mx_output.specs.declared.endings.ending.Ending.TheVariants as ending
use Rattle.mx_output.specs.declared.endings.ending.Stop.{Stop}
use Rattle.mx_lists.specs.declared.question.Question.{Question}
use Rattle.mx_lists.specs.declared.report.Report.{Report}

-- a list of the kind that was asked for was appended
pub shown_report : (question : Question) (list : Report) (old new : List ℕ) (result : Result Ending Stop) → IsOfKind question list → OnOk result (new ≡ old ++ report_lines list)
    → IfOk result (λ e. e ≡ ending.Done) → IfOk result (λ e. (text : List ℕ) × (new ≡ old ++ text) × IsListAnswer question text e)
shown_report question list old new (Ok e) kind printed done = (report_lines list, printed, inl (list, kind, refl, done))
shown_report question list old new (Err stop) kind printed done = tt

listed_as : (question : Question) (book : List Entry) (list : Report) (old new : List ℕ) (e : Ending) (o : Option Report) → report_of book question ≡ o → IsAnswer (found_or UnknownAircraft o) (Ok list) → new ≡ old ++ report_lines list → e ≡ ending.Done → Tells question book old new e
listed_as question book list old new e None is (inl same) printed done = (cc)
listed_as question book list old new e (Some found) is (inl same) printed done =
    let this : list ≡ found = cc in
    record { text = printed ∙ ap (λ l. old ++ report_lines l) this ∙ ap (λ (o : Option Report). old ++ list_answer o) (sym is); ending_is = done ∙ ap list_ending (sym is) }
listed_as question book list old new e o is (inr (inl memory)) printed done = (cc)
listed_as question book list old new e o is (inr (inr store)) printed done = (cc)

-- a list was appended, which is the answer of the book that was asked
pub tells_report : (question : Question) (book : List Entry) (list : Report) (old new : List ℕ) (result : Result Ending Stop) → IsAnswer (found_or UnknownAircraft (report_of book question)) (Ok list) → OnOk result (new ≡ old ++ report_lines list)
    → IfOk result (λ e. e ≡ ending.Done) → IfOk result (Tells question book old new)
tells_report question book list old new (Ok e) is printed done = listed_as question book list old new e (report_of book question) refl is printed done
tells_report question book list old new (Err stop) is printed done = tt

refused_as : (question : Question) (book : List Entry) (refusal : Refusal) (old new : List ℕ) (e : Ending) (o : Option Report) → report_of book question ≡ o
    → IsAnswer (found_or UnknownAircraft o) (Err (Refused refusal)) → new ≡ old ++ reply_line (reply.Refused refusal) → e ≡ ending.Refused → Tells question book old new e
refused_as question book refusal old new e None is (inl same) printed done =
    let unknown : refusal ≡ UnknownAircraft = cc in
    record {
      text = printed ∙ ap (λ (r : Refusal). old ++ reply_line (reply.Refused r)) unknown ∙ ap (λ (o : Option Report). old ++ list_answer o) (sym is);
      ending_is = done ∙ ap list_ending (sym is);
    }
refused_as question book refusal old new e (Some list) is (inl same) printed done = (cc)
refused_as question book refusal old new e o is (inr (inl memory)) printed done = (cc)
refused_as question book refusal old new e o is (inr (inr store)) printed done = (cc)

-- a refusal was appended, which is the answer of the book that was asked
pub tells_refusal : (question : Question) (book : List Entry) (refusal : Refusal) (old new : List ℕ) (result : Result Ending Stop)
    → IsAnswer (found_or UnknownAircraft (report_of book question)) (Err (Refused refusal)) → OnOk result (new ≡ old ++ reply_line (reply.Refused refusal)) → IfOk result (λ e. e ≡ ending.Refused)
    → IfOk result (Tells question book old new)
tells_refusal question book refusal old new (Ok e) is printed done = refused_as question book refusal old new e (report_of book question) refl is printed done
tells_refusal question book refusal old new (Err stop) is printed done = tt
