-- Worked requests and answers, computed from the definitions.
use Rattle.std.proofs.Common.{refl, ◌≡◌, ℕ, List, [], ◌∷◌, true, false, Some, None, Ok, Err}
use Rattle.std.specs.Prelude.{codes, map, is_some}
use Rattle.std.specs.Fmt.{digits}
use Rattle.mx_base.specs.Calendar.{date_of}
use Rattle.mx_base.specs.Texts.{day_text}
use Rattle.mx_book.specs.commands.Act.{Entry, Added, Flown}
use Rattle.mx_book.specs.declared.verdict.Refusal.TheVariants.{UnknownAircraft}
use Rattle.mx_book.specs.declared.verdict.Reply.TheVariants.{Accepted, Already}
use Rattle.mx_book.specs.declared.verdict.Reply.TheVariants as reply
use Rattle.mx_faults.specs.declared.fault.Ask.TheVariants.{Refused, Failed}
use Rattle.mx_faults.specs.declared.fault.Fault.TheVariants as office
use Rattle.mx_intake.specs.Fault.{fault}
use Rattle.mx_intake.specs.Number.{number_of_digits}
use Rattle.mx_intake.proofs.Worked.{intake_on_literals}
use Rattle.mx_output.specs.declared.sector_log.report.RowReply.TheVariants as row
use Rattle.mx_lists.specs.declared.question.Question.TheVariants.{Life, Due, Forecast, Limits}
use Rattle.mx_lists.specs.declared.report.Report.TheVariants as report
use Rattle.mx_http.specs.declared.request.input.InputFault.TheVariants as input
use Rattle.mx_http.specs.declared.request.rejection.Rejection.TheVariants.{BadRequest}
use Rattle.mx_http.specs.declared.request.routes.Place.TheVariants as place
use Rattle.mx_http.specs.declared.responses.fault.DeskFault.TheVariants as desk
use Rattle.mx_http.specs.responses.Answer.{replies_answer, rows_answer, list_answer, fault_answer}
use Rattle.mx_http.specs.responses.Request.{Request, enters, imports, asks, unread, rejected, commands_of, entering, entering_one, loading, importing, asking, forecast_in_digits, request_of}
use Rattle.mx_http.specs.responses.Stopped.{fault_of_input}

-- ── answers ──

-- two replies, none of them a refusal
entered : replies_answer (Accepted 1 ∷ Already 1 ∷ []) None ≡ (200, codes "accepted 1\nalready 1\n")
unfolding digits
entered = refl

-- one refusal is enough
one_refused : replies_answer (reply.Refused UnknownAircraft ∷ Accepted 1 ∷ []) None ≡ (409, codes "refused 20\naccepted 1\n")
unfolding digits
one_refused = refl

-- the office was stopped behind the first command: its reply, and then the line of the fault
stopped_behind_one : replies_answer (Accepted 1 ∷ []) (Some office.Store) ≡ (503, codes "accepted 1\nfault store\n")
unfolding digits
stopped_behind_one = refl

-- a log whose rows are all entered, one with a bad row, and one with a row that is refused
rows_entered : rows_answer (row.Entered (Accepted 2) ∷ []) None ≡ (200, codes "row 1 accepted 2\n")
unfolding digits
rows_entered = refl

row_is_bad : rows_answer (row.Entered (Accepted 2) ∷ row.Bad (fault 65 2) ∷ []) None ≡ (409, codes "row 1 accepted 2\nrow 2 fault 65\n")
unfolding digits
row_is_bad = refl

row_is_refused : rows_answer (row.Entered (reply.Refused UnknownAircraft) ∷ []) None ≡ (409, codes "row 1 refused 20\n")
unfolding digits
row_is_refused = refl

-- a list, the refusal of an unknown registration, and an office that has to be opened again
list_given : list_answer (Ok (report.Limits (record { tail = codes "D-ABCD"; day = 19792; rows = [] }))) ≡ (200, codes "limits D-ABCD 2024-03-10\nend 0\n")
unfolding digits day_text date_of
list_given = refl

list_refused : list_answer (Err (Refused UnknownAircraft)) ≡ (409, codes "refused 20\n")
unfolding digits
list_refused = refl

list_stopped : list_answer (Err (Failed office.NeedsReopen)) ≡ (503, codes "fault reopen\n")
list_stopped = refl

-- a body whose first command lacks a key, and one for which memory ran out
body_is_faulty : fault_answer (fault 62 1) ≡ (400, codes "fault 62 entry 1\n")
unfolding digits
body_is_faulty = refl

memory_ran_out : fault_answer (fault 60 0) ≡ (503, codes "fault memory\n")
memory_ran_out = refl

-- ── requests ──

-- D-ABCD, built on 2000-01-01, with 60,000 minutes and 800 cycles as of 2024-01-01T00:00
abbrev pub abcd : Entry
abcd = record {
  doc = codes "A1";
  act = Added (record { tail = codes "D-ABCD"; kind = codes "C172"; birth = 10957; opening = record { minutes = 60000; cycles = 800 }; as_of = 28401120 }) [];
}

-- its sector of page 12 line 1, from 08:00 to 09:30 on 2024-03-01
abbrev pub sector : Entry
sector = record { doc = codes "TL/D-ABCD/12/1"; act = Flown (record { tail = codes "D-ABCD"; page = 12; line = 1; off = 28488000; on = 28488090; cycles = 1 }) }

-- the commands of a log are those of its good rows, and a body gives its own
commands_of_a_log : commands_of (imports (Err (fault 63 1) ∷ Ok sector ∷ [])) ≡ sector ∷ []
commands_of_a_log = refl

commands_given : commands_of (entering (Ok (abcd ∷ sector ∷ []))) ≡ abcd ∷ sector ∷ []
commands_given = refl

no_commands_given : entering (Err (fault 62 1)) ≡ unread (fault 62 1)
no_commands_given = refl

programme_given : entering_one (Ok abcd) ≡ enters (abcd ∷ [])
programme_given = refl

programme_by_no_document : loading None (codes "kind = \"C172\"") ≡ rejected BadRequest
programme_by_no_document = refl

no_log_given : importing (Err (fault 66 0)) ≡ unread (fault 66 0)
no_log_given = refl

no_question : asking None ≡ rejected BadRequest
no_question = refl

-- a number has up to 6 digits
most_digits : map (λ days. is_some (forecast_in_digits (codes "D-ABCD") (codes "2024-03-10") days (codes "120") (codes "4"))) (codes "003650" ∷ codes "0003650" ∷ []) ≡ true ∷ false ∷ []
unfolding intake_on_literals number_of_digits
most_digits = refl

-- the forecast of 2024-03-10, which is day 19,792, so many days ahead at so many minutes and cycles a day
abbrev forecast_at : List ℕ → List ℕ → List ℕ → Request
forecast_at days minutes cycles = request_of (place.Forecast, codes "D-ABCD" ∷ codes "2024-03-10" ∷ days ∷ minutes ∷ cycles ∷ []) []

life_of_a_path : request_of (place.Life, codes "D-ABCD" ∷ []) [] ≡ asks (Life (codes "D-ABCD"))
life_of_a_path = refl

life_of_no_registration : request_of (place.Life, codes "d-abcd" ∷ []) [] ≡ rejected BadRequest
life_of_no_registration = refl

due_of_a_path : request_of (place.Due, codes "D-ABCD" ∷ codes "2024-03-10" ∷ []) [] ≡ asks (Due (codes "D-ABCD") 19792)
unfolding intake_on_literals
due_of_a_path = refl

limits_of_a_path : request_of (place.Limits, codes "D-ABCD" ∷ codes "2024-03-10" ∷ []) [] ≡ asks (Limits (codes "D-ABCD") 19792)
unfolding intake_on_literals
limits_of_a_path = refl

forecast_of_a_path : forecast_at (codes "30") (codes "120") (codes "4") ≡ asks (Forecast (codes "D-ABCD") 19792 30 120 4)
unfolding intake_on_literals number_of_digits
forecast_of_a_path = refl

-- each number has a greatest of its own: 3,650 days, 1,440 minutes and 50 cycles a day
forecast_at_the_greatest : forecast_at (codes "3650") (codes "1440") (codes "50") ≡ asks (Forecast (codes "D-ABCD") 19792 3650 1440 50)
unfolding intake_on_literals number_of_digits
forecast_at_the_greatest = refl

too_many_days : forecast_at (codes "3651") (codes "1440") (codes "50") ≡ rejected BadRequest
unfolding intake_on_literals number_of_digits
too_many_days = refl

too_many_minutes : forecast_at (codes "3650") (codes "1441") (codes "50") ≡ rejected BadRequest
unfolding intake_on_literals number_of_digits
too_many_minutes = refl

too_many_cycles : forecast_at (codes "3650") (codes "1440") (codes "51") ≡ rejected BadRequest
unfolding intake_on_literals number_of_digits
too_many_cycles = refl

-- ── inputs ──

-- want of memory and a failed read are told apart
input_faults : map fault_of_input (input.Memory ∷ input.Read ∷ []) ≡ desk.Memory ∷ desk.Read ∷ []
input_faults = refl
