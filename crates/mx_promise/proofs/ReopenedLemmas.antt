-- The headline, from what the run, the reopening and the printing answer.
use Rattle.std.proofs.Common.{ℕ, List, take, Result, Ok, Err, IfOk, IfErr, inr, refl, subst, sym}
use Rattle.std.proofs.Math.Logic.{∥∥₁_elim, ∥∥₁_map, ∥∥₁_prop}
use Rattle.sqlite_disk.specs.declared.Disk as disk
use Rattle.sqlite_store.specs.declared.store.FileStore.{FileStore}
use Rattle.sqlite.specs.Store.{Ghosts}
use Rattle.sqlite.specs.Held.{Held}
use Rattle.sqlite.specs.Files.{file_state}
use Rattle.sqlite.specs.Tree.{Trees}
use Rattle.sqlite.specs.Schema.{Schema}
use Rattle.sqlite.specs.State.{State, HasCleanDisk}
use Rattle.mx_book.specs.commands.Act.{Entry}
use Rattle.mx_book.specs.Accepted.{accepted, HasAcknowledged}
use Rattle.mx_book.specs.Run.{book_run}
use Rattle.mx_book.proofs.AcceptedLemmas.{acknowledged_stays}
use Rattle.mx_database.specs.power.Found.{IsEndOf}
use Rattle.mx_faults.specs.declared.fault.OpenFault.{OpenFault}
use Rattle.mx_office.specs.declared.fault.Outcomes.{Outcomes}
use Rattle.mx_office.specs.Calls.{RunsOver}
use Rattle.mx_office.specs.Layout.{office_point}
use Rattle.mx_office.specs.Office.{office_state}
use Rattle.mx_apply.specs.writing.Written.{IsSettled}
use Rattle.mx_office.specs.Stands.{RestsIn}
use Rattle.mx_promise.specs.Own.{StandsHere}
use Rattle.mx_promise.specs.declared.again.Reopened.{Reopened}
use Rattle.mx_promise.specs.declared.again.Unopened.{Unopened}
use Rattle.mx_promise.specs.declared.again.Unopened.TheVariants.{Files, Database, Office}
use Rattle.mx_promise.specs.Kept.{IsBookKept}
use Rattle.mx_promise.specs.Ended.{IsEnded}
use Rattle.mx_promise.specs.Opened.{IsUnopenedAgain, MissesAgain}
use Rattle.mx_promise.specs.Reopened.{KeepsUnopened, IsKeptUnopened, IsReopened, Reopens, IsReopenedTwice, ReopensTwice}
use Rattle.mx_promise.proofs.KeptLemmas.{book_left, is_book_kept}
use Rattle.mx_promise.proofs.OwnLemmas.{rests_found_here, stands_on}

-- what a run of a book answered, and what it leaves
abbrev pub HasRun : Schema → List Entry → List Entry → Outcomes → State → Type 0
HasRun own before commands outcomes end = RunsOver own before commands outcomes.replies.items outcomes.stopped end

-- the book of tables that a crash leaves
pub record IsKeptIn (own : Schema) (before commands : List Entry) (outcomes : Outcomes) (db : Trees) : Type 0 where
  pub book : List Entry
  pub kept : IsBookKept before commands outcomes book
  pub stands : StandsHere own book db

pub is_kept_in : (own : Schema) (before commands : List Entry) (outcomes : Outcomes) (end : State) → HasCleanDisk end → HasRun own before commands outcomes end → (db : Trees) → end.may_leave db → IsKeptIn own before commands outcomes db
is_kept_in own before commands outcomes end clean run db left =
    let one = book_left own end before commands outcomes run.kept run.crash clean db left in
    record { book = book_run before (take one.0 commands); kept = is_book_kept before commands outcomes one.0 one.1 (run.answered clean) (run.whole clean); stands = one.2 }

pub is_kept_unopened : (own : Schema) → IsSettled own → (before commands : List Entry) (outcomes : Outcomes) (was now : State) (fault : OpenFault) (one : IsUnopenedAgain was fault now) (book : List Entry) → IsBookKept before commands outcomes book → StandsHere own book one.tables
    → IsKeptUnopened own before commands outcomes fault now
is_kept_unopened own settled before commands outcomes was now fault one book kept stands = record {
  book = book;
  kept = kept;
  tables = rests_found_here own settled now one.tables book one.settled stands;
  reason = (one.books own office_point book (stands_on own settled one.tables book stands)).reason (inr refl);
}

pub keeps_unopened : {X D : Type 0} {g : disk.Ghosts D} (own : Schema) → IsSettled own → (before commands : List Entry) (outcomes : Outcomes) (end : Held (FileStore D g)) → HasRun own before commands outcomes (file_state end)
    → (again : Result X (Unopened D g)) → IfErr again (MissesAgain (file_state end)) → IfErr again (KeepsUnopened own before commands outcomes)
keeps_unopened own settled before commands outcomes end run (Ok it) misses = tt
keeps_unopened own settled before commands outcomes end run (Err (Files error)) misses = misses
keeps_unopened own settled before commands outcomes end run (Err (Database error rest)) misses = λ faithful.
    let it = misses faithful in
    ∣ record {
      was = end;
      clean = it.0;
      books = λ db may. (let one = is_kept_in own before commands outcomes (file_state end) it.0 run db may in (one.book, one.kept, one.stands));
      still = it.1;
    } ∣₁
keeps_unopened own settled before commands outcomes end run (Err (Office conn fault)) misses = λ clean. ∥∥₁_map (misses clean) (λ one.
    let it = is_kept_in own before commands outcomes (file_state end) one.clean run one.tables one.left in
    is_kept_unopened own settled before commands outcomes (file_state end) (file_state conn) fault one it.book it.kept it.stands)

-- two runs, one after the other
pub is_reopened_twice : {S : Type 0} {g : Ghosts S} (own : Schema) (before commands more : List Entry) (tail : List ℕ) (day : ℕ) (first second : Outcomes) (again : Reopened S g) (between : List Entry)
    → IsBookKept before commands first between → IsReopened own between more tail day second again → IsReopenedTwice own before commands more tail day first second again
is_reopened_twice own before commands more tail day first second again between kept it =
    let added = take it.kept.kept (accepted between more) in
    let still = acknowledged_stays between added first.replies.items commands kept.acknowledged in
    record { between = between; before_it = kept; after_it = it; still = subst (λ (book : List Entry). HasAcknowledged book first.replies.items commands) (sym it.kept.prefix) still }

pub reopens_twice : {S E : Type 0} {g : Ghosts S} (own : Schema) (before commands more : List Entry) (tail : List ℕ) (day : ℕ) (first second : Outcomes) (one : Reopened S g) (again : Result (Reopened S g) E) → Reopens own before commands tail day first one
    → ((between : List Entry) → RestsIn own (office_state one.office) between → IfOk again (Reopens own between more tail day second)) → IfOk again (λ it. HasCleanDisk (office_state it.office) → HasCleanDisk (office_state one.office))
    → IfOk again (ReopensTwice own before commands more tail day first second)
reopens_twice own before commands more tail day first second one (Ok it) found next sure = λ clean.
    ∥∥₁_elim (found (sure clean)) ∥∥₁_prop (λ left. ∥∥₁_map (next left.book left.tables clean) (λ last. is_reopened_twice own before commands more tail day first second it left.book left.kept last))
reopens_twice own before commands more tail day first second one (Err why) found next sure = tt

-- ── a process that ends ──

pub is_ended : {D : Type 0} {g : disk.Ghosts D} (own : Schema) → IsSettled own → (before commands : List Entry) (outcomes : Outcomes) (conn : Held (FileStore D g)) (store : FileStore D g) → HasRun own before commands outcomes (file_state conn)
    → IsEndOf conn store → IsEnded own before commands (record { outcomes = outcomes; store = store })
is_ended own settled before commands outcomes conn store run left = record {
  settled = settled;
  conn = conn;
  left = left;
  books = λ clean db may. let it = is_kept_in own before commands outcomes (file_state conn) clean run db may in (it.book, it.kept, it.stands);
}
