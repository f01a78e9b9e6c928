-- What a request is answered: a status, and a body that is what the words of the program print.
use Rattle.std.specs.Prelude.{◌≡◌, ℕ, List, [], ◌++◌, ◌||◌, Bool, nat_eq, Option, Some, None, Result, Ok, Err, if◌then◌else◌}
use Rattle.std.specs.List.{list_any}
use Rattle.http.specs.Response.{head_of}
use Rattle.http.specs.declared.response.Response.{Response}
use Rattle.http.specs.declared.version.TheConstants.Version.{HTTP_11}
use Rattle.mx_book.specs.declared.verdict.Reply.{Reply}
use Rattle.mx_book.specs.declared.verdict.Reply.TheVariants as reply
use Rattle.mx_intake.specs.declared.fault.IntakeFault.{IntakeFault}
use Rattle.mx_intake.specs.declared.fault.TheConstants.{MEMORY}
use Rattle.mx_faults.specs.declared.fault.Ask.{Ask}
use Rattle.mx_faults.specs.declared.fault.Ask.TheVariants.{Refused, Failed}
use Rattle.mx_faults.specs.declared.fault.Fault.{Fault}
use Rattle.mx_faults.specs.declared.fault.Fault.TheVariants.{Memory}
use Rattle.mx_reports.specs.Replies.{is_refusal, lines_of}
use Rattle.mx_reports.specs.ReplyText.{reply_line}
use Rattle.mx_output.specs.sector_log.Text.{row_lines}
use Rattle.mx_output.specs.sector_log.Told.{is_bad, is_refused_row}
use Rattle.mx_output.specs.declared.sector_log.report.RowReply.{RowReply}
use Rattle.mx_output.specs.endings.FaultLine.{intake_words, line_of, office_words}
use Rattle.mx_reports.specs.ReportText.{report_lines}
use Rattle.mx_lists.specs.declared.report.Report.{Report}
use Rattle.mx_http.specs.request.Rejected.{rejection_body, rejection_status}
use Rattle.mx_http.specs.declared.request.rejection.Rejection.{Rejection}
use Rattle.mx_http.specs.declared.responses.fault.DeskFault.{DeskFault}
use Rattle.mx_http.specs.declared.responses.fault.DeskFault.TheVariants as desk

-- the status and the body
abbrev pub Answer : Type 0
Answer = ℕ × List ℕ

-- the line of what stopped an office
abbrev pub stop_line : Fault → List ℕ
stop_line fault = line_of (office_words fault)

-- an office was stopped
abbrev pub stop_answer : Fault → Answer
stop_answer fault = (503, stop_line fault)

-- 200, or 409 where something was refused
abbrev pub done_status : Bool → ℕ
done_status is_refused = if is_refused then 409 else 200

-- lines, and behind them the line of what stopped the office, with 503, if anything did
abbrev pub lines_answer : Bool → List ℕ → Option Fault → Answer
lines_answer is_refused lines None = (done_status is_refused, lines)
lines_answer is_refused lines (Some fault) = (503, lines ++ stop_line fault)

-- a line for each reply
abbrev pub replies_answer : List Reply → Option Fault → Answer
replies_answer said stopped = lines_answer (list_any is_refusal said) (lines_of said) stopped

-- a line for each row: one that states no sector counts as refused
abbrev pub rows_answer : List RowReply → Option Fault → Answer
rows_answer rows stopped = lines_answer (list_any is_bad rows || list_any is_refused_row rows) (row_lines rows) stopped

-- the list that is asked for, the refusal, or what stopped the office
abbrev pub list_answer : Result Report Ask → Answer
list_answer (Ok report) = (200, report_lines report)
list_answer (Err (Refused refusal)) = (409, reply_line (reply.Refused refusal))
list_answer (Err (Failed fault)) = stop_answer fault

-- why the text of the body gives nothing; 503 where memory ran out for it
abbrev pub fault_answer : IntakeFault → Answer
fault_answer fault = if nat_eq fault.number MEMORY then stop_answer Memory else (400, line_of (intake_words fault))

abbrev pub rejection_answer : Rejection → Answer
rejection_answer why = (rejection_status why, rejection_body why)

-- a response was made, of HTTP/1.1 and with no header field, since those that an answer has are written with its bytes; or memory ran out for it
abbrev pub IsMade : {X : Type 0} → Result (Response X) DeskFault → Type 0
IsMade (Ok r) = ((head_of r).version ≡ HTTP_11) × ((head_of r).headers ≡ [])
IsMade (Err fault) = fault ≡ desk.Memory
