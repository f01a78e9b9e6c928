-- The headline from the connection on, from what the openings, the run and the printing answer.
use Rattle.std.proofs.Common.{refl, sym, ap, subst, ◌∙◌, ◌≡◌, inl, inr, ℕ, List, [], length, take, Option, Some, None, Result, Ok, Err, IfOk, IfErr, IfSome}
use Rattle.std.proofs.Math.Logic.{∥∥₁_elim, ∥∥₁_map, ∥∥₁_prop}
use Rattle.sqlite_disk.specs.declared.Disk as disk
use Rattle.sqlite_store.specs.declared.store.FileStore.{FileStore}
use Rattle.sqlite.specs.Store.{Ghosts}
use Rattle.sqlite.specs.Held.{Held, state}
use Rattle.sqlite.specs.Files.{file_state, over_files}
use Rattle.sqlite.specs.Schema.{Schema}
use Rattle.sqlite.specs.State.{State, HasCleanDisk}
use Rattle.sqlite.specs.Tree.{Trees}
use Rattle.sqlite.specs.declared.error.Error.{Error}
use Rattle.sqlite.specs.declared.file.Leftover.{Leftover}
use Rattle.mx_book.specs.commands.Act.{Entry}
use Rattle.mx_book.specs.Book.{IsBook}
use Rattle.mx_book.specs.Run.{replies}
use Rattle.mx_base.specs.declared.point.Point.{Point}
use Rattle.mx_registers.specs.points.Commits.{point_behind}
use Rattle.mx_layout.specs.Crash.{Leaves}
use Rattle.mx_database.specs.power.Found.{IsFound}
use Rattle.mx_book_tables.specs.stands.Schemas.{IsOfFile}
use Rattle.mx_faults.specs.declared.fault.OpenFault.{OpenFault}
use Rattle.mx_office.specs.declared.fault.Outcomes.{Outcomes}
use Rattle.mx_office.specs.declared.office.Office.{Office as TheOffice}
use Rattle.mx_office.specs.Layout.{office_point}
use Rattle.mx_office.specs.Office.{office_state}
use Rattle.mx_office.specs.Opening.{ChangesOnWay, MovesOn}
use Rattle.mx_apply.specs.writing.Written.{IsSettled}
use Rattle.mx_promise.specs.Moved.{IsKeptMoving}
use Rattle.mx_promise.specs.Own.{RestsOn}
use Rattle.mx_promise.proofs.OwnLemmas.{crash_on, stands_on}
use Rattle.mx_promise.specs.declared.again.Reopened.{Reopened}
use Rattle.mx_promise.specs.declared.again.Unopened.{Unopened}
use Rattle.mx_promise.specs.declared.again.Unopened.TheVariants.{Files, Database, Office}
use Rattle.mx_promise.specs.declared.next_process.Ended.{Ended}
use Rattle.mx_promise.specs.Ended.{without_database, IsEnded, IsEndedSomewhere}
use Rattle.mx_promise.specs.Kept.{IsBookKept}
use Rattle.mx_promise.specs.Opened.{IsHandedClean, IsKeptBehind, IsKeptSomewhere, IsLeftClean, IsLeftFor, IsLeftStanding, IsOpenedAgain, IsPrintedAgain, IsThereClean, IsUnopenedAgain, KeepsSomewhere, MissesAgain, PrintsAgain, RestsSomewhere, StandsKept, StandsSomewhere}
use Rattle.mx_promise.specs.Reopened.{IsReopened, Reopens, ReopensTwice}
use Rattle.mx_promise.proofs.AgainLemmas.{file_behind}
use Rattle.mx_promise.proofs.KeptLemmas.{is_book_kept, rests_on}
use Rattle.mx_promise.proofs.ReopenedLemmas.{HasRun, is_kept_in, is_reopened_twice}

-- ── the one book that is left ──

-- a file that can be at its point stays at one
left_for : (own : Schema) (at : Point) (book : List Entry) (fault : OpenFault) (now : State) → IsOfFile at → IsBook book → IsKeptMoving own at book fault now → IsLeftFor own book fault now
left_for own at book fault now file is it = record {
  rests = λ other. (let one = it.rests other in (point_behind one.0 at book, file_behind book is one.0 at file, one.1));
  crash = λ clean db may. (let one = it.crash clean db may in (point_behind one.0 at book, file_behind book is one.0 at file, one.1));
}

module _ (own : Schema) (before commands : List Entry) (outcomes : Outcomes) where
  -- what a crash may leave of tables that stand for it, at some point that a file can be at
  abbrev KeptSomewhere : Trees → Type 0
  KeptSomewhere db = (book : List Entry) × IsBookKept before commands outcomes book × StandsSomewhere own book db

  pub kept_somewhere : (at : Point) → IsOfFile at → (db : Trees) → StandsKept own at before commands outcomes db → KeptSomewhere db
  kept_somewhere at file db it = (it.0, it.1, (it.2.0, it.2.1 file, it.2.2))

  pub kept_anywhere : (at : Point) (db : Trees) → KeptSomewhere db → StandsKept own at before commands outcomes db
  kept_anywhere at db it = (it.0, it.1, (it.2.0, (λ _. it.2.1), it.2.2))

  -- ── an office was opened ──

  pub kept_behind : {S : Type 0} {g : Ghosts S} (was : State) (again : TheOffice S g) (one : IsOpenedAgain was (office_state again)) → KeptSomewhere one.tables → IsKeptBehind own before commands outcomes again
  kept_behind was again one it = record { book = it.0; kept = it.1; tables = one.books own it.2.0 it.0 it.2.2 }

  pub reopened : {S : Type 0} {g : Ghosts S} (at : Point) (was : State) (tail : List ℕ) (day : ℕ) (again : Reopened S g) (one : IsPrintedAgain was tail day again) → StandsKept own at before commands outcomes one.tables → IsReopened own before commands tail day outcomes again
  reopened at was tail day again one it = record { book = it.0; kept = it.1; tables = one.books own it.2.0 it.0 it.2.2; printed = one.printed own it.2.0 it.0 it.2.2 }

  pub reopens : {S E : Type 0} {g : Ghosts S} (at : Point) (was : State) → Leaves was (StandsKept own at before commands outcomes) → (tail : List ℕ) (day : ℕ) (again : Result (Reopened S g) E) → IfOk again (λ it. HasCleanDisk (office_state it.office) → HasCleanDisk was)
      → IfOk again (PrintsAgain was tail day) → IfOk again (Reopens own before commands tail day outcomes)
  reopens at was leaves tail day (Ok it) sure prints = λ clean. ∥∥₁_map (prints clean) (λ one. reopened at was tail day it one (leaves (sure clean) one.tables one.left))
  reopens at was leaves tail day (Err why) sure prints = tt

  -- ── none was ──

  pub kept_unopened : (was : State) (fault : OpenFault) (now : State) (one : IsUnopenedAgain was fault now) → KeptSomewhere one.tables → IsKeptSomewhere own before commands outcomes fault now
  kept_unopened was fault now one it =
      let kept = one.books own it.2.0 it.0 it.2.2 in
      record { book = it.0; kept = it.1; tables = left_for own it.2.0 it.0 fault now it.2.1 it.2.2.tables.rows.is_book kept; reason = kept.reason it.2.1 }

  pub keeps_somewhere : {X D : Type 0} {g : disk.Ghosts D} (at : Point) → IsOfFile at → (end : Held (FileStore D g)) → Leaves (file_state end) (StandsKept own at before commands outcomes)
      → (again : Result X (Unopened D g)) → IfErr again (MissesAgain (file_state end)) → IfErr again (KeepsSomewhere own before commands outcomes)
  keeps_somewhere at file end leaves (Ok it) misses = tt
  keeps_somewhere at file end leaves (Err (Files error)) misses = misses
  keeps_somewhere at file end leaves (Err (Database error rest)) misses = λ faithful.
      let it = misses faithful in
      ∣ record { was = end; clean = it.0; books = λ db may. kept_somewhere at file db (leaves it.0 db may); still = it.1 } ∣₁
  keeps_somewhere at file end leaves (Err (Office conn fault)) misses = λ clean. ∥∥₁_map (misses clean) (λ one. kept_unopened (file_state end) fault (file_state conn) one (kept_somewhere at file one.tables (leaves one.clean one.tables one.left)))

-- where the database is there behind an opening, the disk had returned what was written
pub seen_clean : {D : Type 0} {g : disk.Ghosts D} (end : State) (again : Result (Reopened (FileStore D g) over_files) (Unopened D g)) → IfOk again (λ it. HasCleanDisk (office_state it.office) → HasCleanDisk end)
    → IfErr again (λ why. IsLeftClean why → HasCleanDisk end) → IsThereClean again → HasCleanDisk end
seen_clean end (Ok it) opened left there = opened there
seen_clean end (Err why) opened left there = left there

-- ── what commands leave ──

-- an office was opened for them
pub left_by_run : (own : Schema) → IsSettled own → (at : Point) (before commands : List Entry) (outcomes : Outcomes) (end : State) → HasRun own before commands outcomes end → Leaves end (StandsKept own at before commands outcomes)
left_by_run own settled at before commands outcomes end run clean db may =
    let it = is_kept_in own before commands outcomes end clean run db may in
    (it.book, it.kept, (office_point, (λ _. inr refl), stands_on own settled db it.book it.stands))

-- none was: with no reply the book is the one from before
pub left_unrun : {S : Type 0} (g : Ghosts S) (was : Held S) (end : State) (own : Schema) (at : Point) (before commands : List Entry) (outcomes : Outcomes) (fault : OpenFault) → outcomes.replies.items ≡ [] → outcomes.stopped ≡ None → RestsOn own at (state g was) before
    → ChangesOnWay g was end → MovesOn (state g was) end (Some fault) → Leaves end (StandsKept own at before commands outcomes)
left_unrun g was end own at before commands outcomes fault none unstopped rests changes moves clean db may =
    let it = crash_on g was end own at before rests changes (Some fault) moves clean db may in
    let kept = is_book_kept before commands outcomes 0 (inl (sym (ap length none))) (none ∙ sym (ap (λ said. replies before (take (length said) commands)) none)) (λ table damaged. cc) in
    (before, kept, (point_behind it.0 at before, file_behind before it.1.tables.rows.is_book it.0 at, it.1))

-- ── a second stop ──

module _ {D : Type 0} {g : disk.Ghosts D} (again : Result (Reopened (FileStore D g) over_files) (Unopened D g)) (why : Unopened D g) (conn : Held (FileStore D g)) (fault : OpenFault) (is : again ≡ Err why) (there : why ≡ Office conn fault) where
  -- what is known of the connection that is handed back is known of what the stop left
  pub there_clean : HasCleanDisk (file_state conn) → IsHandedClean again
  there_clean clean = subst IsHandedClean (sym is) (subst (λ w. IsHandedClean {D = D} {g = g} (Err w)) (sym there) clean)

  pub leaves_standing : (own : Schema) (book : List Entry) → IsLeftStanding own book again → Leaves (file_state conn) (StandsSomewhere own book)
  leaves_standing own book left = subst (λ w. IsLeftStanding {D = D} {g = g} own book (Err w)) there (subst (IsLeftStanding own book) is left)

  pub kept_left : (own : Schema) (before commands : List Entry) (outcomes : Outcomes) → IfErr again (KeepsSomewhere own before commands outcomes) → HasCleanDisk (file_state conn) → ∥ IsKeptSomewhere own before commands outcomes fault (file_state conn) ∥₁
  kept_left own before commands outcomes keeps =
      let kept = subst (λ (r : Result (Reopened (FileStore D g) over_files) (Unopened D g)). IfErr r (KeepsSomewhere own before commands outcomes)) is keeps in
      subst (λ w. KeepsSomewhere {D = D} {g = g} own before commands outcomes w) there kept

-- what is known of the book that a stop left
pub book_left_behind : {D : Type 0} {g : disk.Ghosts D} (own : Schema) → IsSettled own → (before commands : List Entry) (tail : List ℕ) (day : ℕ) (outcomes : Outcomes) (again : Result (Reopened (FileStore D g) over_files) (Unopened D g)) → IsHandedClean again
    → IfOk again (Reopens own before commands tail day outcomes) → IfErr again (KeepsSomewhere own before commands outcomes) → ∥ ((between : List Entry) × IsBookKept before commands outcomes between × IsLeftStanding own between again) ∥₁
book_left_behind own settled before commands tail day outcomes (Ok it) clean reopens keeps = ∥∥₁_map (reopens clean) (λ one. (one.book, one.kept, (settled, one.tables)))
book_left_behind own settled before commands tail day outcomes (Err (Office conn fault)) clean reopens keeps = ∥∥₁_map (keeps clean) (λ one. (one.book, one.kept, one.tables.crash))
book_left_behind own settled before commands tail day outcomes (Err (Database error left)) clean reopens keeps = absurd clean
book_left_behind own settled before commands tail day outcomes (Err (Files error)) clean reopens keeps = absurd clean

-- what is found behind a further loss of power stands for the book at some point
pub rests_found_somewhere : (own : Schema) (was again : State) (book : List Entry) → HasCleanDisk was → Leaves was (StandsSomewhere own book) → IsFound was.may_leave again → RestsSomewhere own book again
rests_found_somewhere own was again book clean leaves found =
    let stands = leaves clean found.tables found.left in
    (stands.0, stands.1, rests_on own stands.0 was.may_leave again book found stands.2)

-- the second opening goes on from there
pub reopens_twice_somewhere : {D : Type 0} {g : disk.Ghosts D} {E : Type 0} (own : Schema) → IsSettled own → (before commands more : List Entry) (tail : List ℕ) (day : ℕ) (first : Outcomes) (again : Result (Reopened (FileStore D g) over_files) (Unopened D g))
    (mid : State) (second : Outcomes) (last : Result (Reopened (FileStore D g) over_files) E) → IfOk again (Reopens own before commands tail day first) → IfErr again (KeepsSomewhere own before commands first)
    → (HasCleanDisk mid → IsHandedClean again) → ((book : List Entry) → IsLeftStanding own book again → HasCleanDisk mid → ∥ RestsSomewhere own book mid ∥₁) → IfOk last (λ it. HasCleanDisk (office_state it.office) → HasCleanDisk mid)
    → ((at : Point) (book : List Entry) → RestsOn own at mid book → IfOk last (Reopens own book more tail day second)) → IfOk last (ReopensTwice own before commands more tail day first second)
reopens_twice_somewhere own settled before commands more tail day first again mid second (Ok it) reopens keeps there stands sure next = λ clean.
    let early = sure clean in
    ∥∥₁_elim (book_left_behind own settled before commands tail day first again (there early) reopens keeps) ∥∥₁_prop (λ one.
    ∥∥₁_elim (stands one.0 one.2 early) ∥∥₁_prop (λ rests. ∥∥₁_map (next rests.0 one.0 rests.2 clean) (λ final. is_reopened_twice own before commands more tail day first second it one.0 one.1 final)))
reopens_twice_somewhere own settled before commands more tail day first again mid second (Err why) reopens keeps there stands sure next = tt

-- ── a process that ends ──

-- what a process left of an open office is left as of a file at some point
pub ended_somewhere : {D : Type 0} {g : disk.Ghosts D} (own : Schema) (before commands : List Entry) (ended : Ended D g) → IsEnded own before commands ended → IsEndedSomewhere own before commands ended
ended_somewhere own before commands ended it = record {
  conn = it.conn;
  left = it.left;
  books = λ clean db may. (let one = it.books clean db may in (one.0, one.1, (office_point, inr refl, stands_on own it.settled db one.0 one.2)));
}

-- what is known of both ways in which no database was opened
pub unopened_either : {D : Type 0} {g : disk.Ghosts D} (Kept : Unopened D g → Type 0) (error : Error) (left : Option (Leftover D g)) → (left ≡ None → Kept (Files error)) → IfSome left (λ rest. Kept (Database error rest)) → Kept (without_database error left)
unopened_either Kept error (Some rest) none some = some
unopened_either Kept error None none some = none refl
