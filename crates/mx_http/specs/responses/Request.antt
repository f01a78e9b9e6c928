-- What a request asks of an office, by its route, the parts of its path, and its body.
use Rattle.std.specs.Prelude.{ℕ, List, [], ◌∷◌, Option, Some, None, Result, Ok, Err}
use Rattle.mx_book.specs.commands.Act.{Entry}
use Rattle.mx_intake.specs.Entries.{entries_of_text}
use Rattle.mx_intake.specs.Form.{if_read}
use Rattle.mx_intake.specs.Loading.{entry_of_programme}
use Rattle.mx_intake.specs.Number.{number_of_digits}
use Rattle.mx_intake.specs.Sectors.{sector_rows}
use Rattle.mx_intake.specs.declared.fault.IntakeFault.{IntakeFault}
use Rattle.mx_output.specs.sector_log.Rows.{good_rows}
use Rattle.mx_output.specs.questions.Asking.{doc_of, due_question, forecast_question, life_question, limits_question}
use Rattle.mx_lists.specs.declared.question.Question.{Question}
use Rattle.mx_http.specs.request.Routes.{Asked}
use Rattle.mx_http.specs.declared.request.rejection.Rejection.{Rejection}
use Rattle.mx_http.specs.declared.request.rejection.Rejection.TheVariants.{BadRequest}
use Rattle.mx_http.specs.declared.request.routes.Place.TheVariants as place

-- commands are handed in, or the rows of a sector log; a question is asked; the text of the body has this fault; or the request is rejected
pub data Request : Type 0 where
  enters : List Entry → Request
  imports : List (Result Entry IntakeFault) → Request
  asks : Question → Request
  unread : IntakeFault → Request
  rejected : Rejection → Request

-- the commands that a request hands in
abbrev pub commands_of : Request → List Entry
commands_of (enters commands) = commands
commands_of (imports rows) = good_rows rows
commands_of (asks question) = []
commands_of (unread fault) = []
commands_of (rejected why) = []

abbrev pub entering : Result (List Entry) IntakeFault → Request
entering (Ok commands) = enters commands
entering (Err fault) = unread fault

abbrev pub entering_one : Result Entry IntakeFault → Request
entering_one (Ok command) = enters (command ∷ [])
entering_one (Err fault) = unread fault

-- a maintenance programme is loaded by a document, which has to be one
abbrev pub loading : Option (List ℕ) → List ℕ → Request
loading (Some doc) body = entering_one (entry_of_programme doc body)
loading None body = rejected BadRequest

abbrev pub importing : Result (List (Result Entry IntakeFault)) IntakeFault → Request
importing (Ok rows) = imports rows
importing (Err fault) = unread fault

-- a question is asked, if each part of the path can be read
abbrev pub asking : Option Question → Request
asking (Some question) = asks question
asking None = rejected BadRequest

-- ── the parts of a path ──

-- the question for a forecast, whose numbers have 1 to 6 digits
abbrev pub forecast_in_digits : List ℕ → List ℕ → List ℕ → List ℕ → List ℕ → Option Question
forecast_in_digits tail day days minutes cycles =
    if_read (number_of_digits days) (λ within.
    if_read (number_of_digits minutes) (λ m.
    if_read (number_of_digits cycles) (λ c. forecast_question tail day within m c)))

-- ── the request ──

-- what a route and a body ask for
abbrev pub request_of : Asked → List ℕ → Request
request_of (place.Entries, _) body = entering (entries_of_text body)
request_of (place.Programme, doc ∷ _) body = loading (doc_of doc) body
request_of (place.Sectors, _) body = importing (sector_rows body)
request_of (place.Due, tail ∷ day ∷ _) body = asking (due_question tail day)
request_of (place.Limits, tail ∷ day ∷ _) body = asking (limits_question tail day)
request_of (place.Forecast, tail ∷ day ∷ days ∷ minutes ∷ cycles ∷ _) body = asking (forecast_in_digits tail day days minutes cycles)
request_of (place.Life, tail ∷ _) body = asking (life_question tail)
request_of _ body = rejected BadRequest
