-- What becomes of an office that answers a request, whatever its tables hold.
use Rattle.std.specs.Prelude.{◌≡◌, ◌⊎◌}
use Rattle.sqlite.specs.Store.{Ghosts}
use Rattle.mx_jobs.specs.Calls.{Runs}
use Rattle.mx_faults.specs.declared.fault.Fault.TheVariants.{Memory}
use Rattle.mx_jobs.specs.OpenOffice.{Office}
use Rattle.mx_output.specs.sector_log.Rows.{good_rows, told}
use Rattle.mx_jobs.specs.answers.Asked.{Asks}
use Rattle.mx_http.specs.responses.Answer.{Answer, fault_answer, list_answer, rejection_answer, replies_answer, rows_answer, stop_answer}
use Rattle.mx_http.specs.responses.Request.{Request, enters, imports, asks, unread, rejected}

module _ {S : Type 0} {g : Ghosts S} where
  -- an office was asked this, and what it answers has P: a line for each reply or each row, or a list
  abbrev pub Answers : Request → Office S g → Office S g → (Answer → Type 0) → Type 0
  Answers (enters commands) old new P = Runs commands old new (λ said stop. P (replies_answer said stop))
  Answers (imports rows) old new P = Runs (good_rows rows) old new (λ said stop. P (rows_answer (told rows said) stop))
  Answers (asks question) old new P = Asks question old new (λ answer. P (list_answer answer))
  Answers (unread fault) old new P = (new ≡ old) × P (fault_answer fault)
  Answers (rejected why) old new P = (new ≡ old) × P (rejection_answer why)

  -- the same, or memory ran out before anything was asked of it
  abbrev pub AnswersIfRoom : Request → Office S g → Office S g → (Answer → Type 0) → Type 0
  AnswersIfRoom request old new P = Answers request old new P ⊎ ((new ≡ old) × P (stop_answer Memory))
