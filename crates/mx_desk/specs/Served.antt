-- What becomes of a book that a request is answered by; and what an input asks for.
use Rattle.std.specs.Prelude.{◌≡◌, ◌≢◌, ◌⊎◌, ◌+◌, ◌≤◌, ℕ, List, [], length, take, drop, Bool, Option, Some, None, Result, Ok, Err}
use Rattle.std.specs.Io.KnownBytes.{Appends, Keeps}
use Rattle.sqlite.specs.State.{State}
use Rattle.sqlite.specs.Store.{Ghosts}
use Rattle.mx_book.specs.commands.Act.{Entry}
use Rattle.mx_book.specs.Run.{book_run}
use Rattle.mx_layout.specs.TableName.{TableName}
use Rattle.mx_layout.specs.Crash.{Leaves}
use Rattle.mx_jobs.specs.Office.{office_state, IsInDoubt, IsReady, StandsFor}
use Rattle.mx_jobs.specs.Stands.{IsEither, Rests}
use Rattle.mx_faults.specs.declared.fault.Fault.{Fault}
use Rattle.mx_faults.specs.declared.fault.Fault.TheVariants.{Memory, Store, Damaged}
use Rattle.mx_jobs.specs.OpenOffice.{Office}
use Rattle.mx_http.specs.request.Asked.{AsksFor}
use Rattle.mx_http.specs.request.Body.{whole_body}
use Rattle.mx_http.specs.request.Head.{head_of}
use Rattle.mx_http.specs.request.Rejected.{rejection_allows}
use Rattle.mx_http.specs.request.Response.{response_bytes}
use Rattle.mx_http.specs.request.Routes.{Asked}
use Rattle.mx_http.specs.declared.request.rejection.Rejection.{Rejection}
use Rattle.mx_http.specs.declared.request.rejection.Rejection.TheVariants.{BadRequest}
use Rattle.mx_http.specs.declared.responses.fault.DeskFault.{DeskFault}
use Rattle.mx_http.specs.declared.responses.fault.DeskFault.TheVariants as desk
use Rattle.mx_http.specs.responses.Answer.{Answer, stop_answer}
use Rattle.mx_http.specs.responses.Request.{Request, enters, imports, asks, unread, rejected, commands_of, request_of}
use Rattle.mx_http.specs.responses.Stopped.{AppendsSome}
use Rattle.mx_desk.specs.Answered.{AnswersIfRoom}
use Rattle.mx_desk.specs.BookAnswer.{answer_of}

-- ── a book ──

-- the first n commands of a request have replies; a crash leaves the book behind them, or the one with the next command
abbrev pub LeavesBehind : List Entry → Request → ℕ → State → Type 0
LeavesBehind book request n new =
    Leaves new (IsEither (book_run book (take n (commands_of request))) (book_run book (take (n + 1) (commands_of request))))

-- of some request the first n commands have replies
abbrev pub LeavesSome : List Entry → State → Type 0
LeavesSome book new = (request : Request) × (n : ℕ) × LeavesBehind book request n new

-- a book answered a request: all of it, or up to this fault behind the first n commands; the tables are those of the book behind them, unless the store failed
pub record IsServed (book : List Entry) (request : Request) (n : ℕ) (stopped : Option Fault) (answer : Answer) (new : State) : Type 0 where
  pub counted : n ≤ length (commands_of request)
  pub done : stopped ≡ None → n ≡ length (commands_of request)
  pub answered : answer ≡ answer_of book request n stopped
  pub whole : (table : TableName) → stopped ≢ Some (Damaged table)
  pub kept : stopped ≢ Some Store → Rests new (book_run book (take n (commands_of request)))
  pub crash : LeavesBehind book request n new

-- a book answered a request, or memory ran out before anything was asked of it
abbrev pub Serves : List Entry → Request → Answer → State → Type 0
Serves book request answer new =
    ((n : ℕ) × (stopped : Option Fault) × IsServed book request n stopped answer new)
    ⊎ ((answer ≡ stop_answer Memory) × Rests new book)

-- ── an input ──

abbrev pub by_body : Asked → Option (List ℕ) → Request
by_body asked (Some body) = request_of asked body
by_body asked None = rejected BadRequest

abbrev pub behind_head : Result (Asked × ℕ) Rejection → List ℕ → Request
behind_head (Ok said) rest = by_body said.0 (whole_body said.1 rest)
behind_head (Err why) rest = rejected why

abbrev pub IsCut : Result ℕ Rejection → List ℕ → Request → Type 0
IsCut (Err why) input request = request ≡ rejected why
IsCut (Ok n) input request =
    (said : Result (Asked × ℕ) Rejection) × AsksFor (take n input) said × (request ≡ behind_head said (drop n input))

-- this is what an input asks for: by its head, and the body behind it
abbrev pub IsRead : List ℕ → Request → Type 0
IsRead input request = IsCut (head_of input) input request

-- the method that is allowed, where another was asked for
abbrev pub allows : Request → Option Bool
allows (rejected why) = rejection_allows why
allows (enters commands) = None
allows (imports rows) = None
allows (asks question) = None
allows (unread fault) = None

-- the bytes of the answer to a request
abbrev pub bytes_of : Request → Answer → List ℕ
bytes_of request answer = response_bytes answer.0 (allows request) answer.1

module _ {S : Type 0} {g : Ghosts S} where
  -- whatever book an office stood for, a crash leaves it behind some commands
  abbrev pub LeavesBook : Office S g → Office S g → Type 0
  LeavesBook old new = (book : List Entry) → StandsFor old book → LeavesSome book (office_state new)

  -- whatever book an office stood for, while it goes on it stands for that book behind some commands
  abbrev pub KeepsBook : Office S g → Office S g → Type 0
  KeepsBook old new = (book : List Entry) → StandsFor old book → IsReady new → (commands : List Entry) × StandsFor new (book_run book commands)

  -- an office was asked this, and P holds of the bytes of its answer
  abbrev pub AnswersBytes : Request → Office S g → Office S g → (List ℕ → Type 0) → Type 0
  AnswersBytes request old new P = AnswersIfRoom request old new (λ answer. P (bytes_of request answer))

  -- an office was asked what an input asks for, and P holds of the bytes of its answer
  abbrev pub AnswersInput : List ℕ → Office S g → Office S g → (List ℕ → Type 0) → Type 0
  AnswersInput input old new P = (request : Request) × IsRead input request × AnswersBytes request old new P

-- a book answered what an input asks for, and P holds of the bytes of its answer
abbrev pub ServesInput : List Entry → List ℕ → State → (List ℕ → Type 0) → Type 0
ServesInput book input new P =
    (request : Request) × (answer : Answer) × IsRead input request × Serves book request answer new × P (bytes_of request answer)

-- ── a connection ──

-- what a call wrote of an answer, by what it answered: all of it; a beginning, where a write failed; nothing, where it was stopped before
abbrev pub Writes : {X : Type 0} → Result X DeskFault → Option (List ℕ) → Option (List ℕ) → List ℕ → Type 0
Writes (Ok x) old new text = Appends old new text
Writes (Err desk.Write) old new text = AppendsSome old new text
Writes (Err desk.Memory) old new text = Keeps old new
Writes (Err desk.Read) old new text = Keeps old new

-- an input was not answered, and what was written before stands as it was
pub record IsSilent {X S : Type 0} {g : Ghosts S} (input : List ℕ) (result : Result X DeskFault) (old new : Office S g) (was is : Option (List ℕ)) : Type 0 where
  -- it has no byte, or memory ran out or a read failed before anything was asked
  pub why : (input ≡ []) ⊎ (result ≡ Err desk.Memory) ⊎ (result ≡ Err desk.Read)
  -- the office is as it was
  pub unasked : new ≡ old
  -- nothing was written
  pub unwritten : Keeps was is

-- ── one connection after the other ──

-- what ends the serving: want of memory for what is appended, or the store, where the office has to be opened again
abbrev pub StopsServing : {S : Type 0} {g : Ghosts S} → Fault → Office S g → Type 0
StopsServing fault office = (fault ≡ Memory) ⊎ ((fault ≡ Store) × IsInDoubt office)
