-- What a book answers to a request.
use Rattle.std.specs.Prelude.{ℕ, List, take, Option, Some, None, Result, Err}
use Rattle.mx_book.specs.commands.Act.{Entry}
use Rattle.mx_book.specs.Run.{replies}
use Rattle.mx_book.specs.declared.verdict.Refusal.TheVariants.{UnknownAircraft}
use Rattle.mx_jobs.specs.Faults.{found_or}
use Rattle.mx_faults.specs.declared.fault.Ask.{Ask}
use Rattle.mx_faults.specs.declared.fault.Ask.TheVariants.{Failed}
use Rattle.mx_faults.specs.declared.fault.Fault.{Fault}
use Rattle.mx_output.specs.sector_log.Rows.{good_rows, told}
use Rattle.mx_lists.specs.Report.{report_of}
use Rattle.mx_lists.specs.declared.report.Report.{Report}
use Rattle.mx_http.specs.responses.Answer.{Answer, fault_answer, list_answer, rejection_answer, replies_answer, rows_answer}
use Rattle.mx_http.specs.responses.Request.{Request, enters, imports, asks, unread, rejected}

-- the answer of a book to a question that this fault stopped, if any did
abbrev pub book_list_answer : Result Report Ask → Option Fault → Answer
book_list_answer said None = list_answer said
book_list_answer said (Some fault) = list_answer (Err (Failed fault))

-- the answer of a book to a request: of the commands that it hands in the first n have replies, and this fault stopped it behind them, if any did
abbrev pub answer_of : List Entry → Request → ℕ → Option Fault → Answer
answer_of book (enters commands) n stopped = replies_answer (replies book (take n commands)) stopped
answer_of book (imports rows) n stopped = rows_answer (told rows (replies book (take n (good_rows rows)))) stopped
answer_of book (asks question) n stopped = book_list_answer (found_or UnknownAircraft (report_of book question)) stopped
answer_of book (unread fault) n stopped = fault_answer fault
answer_of book (rejected why) n stopped = rejection_answer why
