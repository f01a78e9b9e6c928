-- The headline: what is found where a run was stopped, the power was lost, and the file was opened again.
use Rattle.std.specs.Prelude.{◌≡◌, ◌≢◌, ◌⊎◌, ℕ, List, Vec, None, Some, Result, Err, option_map, MatchResult, ◌∷◌, []}
use Rattle.sqlite_disk.specs.declared.Disk as disk
use Rattle.sqlite_store.specs.declared.store.FileStore.{FileStore}
use Rattle.sqlite.specs.Store.{Ghosts}
use Rattle.sqlite.specs.Schema.{Schema}
use Rattle.sqlite.specs.State.{State, HasCleanDisk}
use Rattle.sqlite.specs.Files.{file_state}
use Rattle.sqlite.specs.Held.{Held}
use Rattle.sqlite.specs.Tree.{Trees}
use Rattle.sqlite.specs.declared.error.Error.{Error}
use Rattle.sqlite.specs.declared.file.Leftover.{Leftover}
use Rattle.sqlite_catalog.specs.Listing.{IsSound}
use Rattle.mx_book.specs.commands.Act.{Entry}
use Rattle.mx_book.specs.declared.verdict.Refusal.TheVariants.{UnknownAircraft}
use Rattle.mx_book.specs.Accepted.{HasAcknowledged}
use Rattle.mx_lists.specs.DueList.{due_list}
use Rattle.mx_database.specs.power.Found.{IsFound}
use Rattle.mx_database.specs.power.Left.{IsFaithful, IsLeft}
use Rattle.mx_layout.specs.Contents.{rows_in}
use Rattle.mx_layout.specs.Point.{point_cells}
use Rattle.mx_layout.specs.Tables.{office}
use Rattle.mx_faults.specs.declared.fault.Ask.{Ask}
use Rattle.mx_faults.specs.declared.fault.Ask.TheVariants.{Refused, Failed}
use Rattle.mx_faults.specs.declared.fault.Fault.TheVariants.{Memory, Store}
use Rattle.mx_faults.specs.declared.fault.OpenFault.{OpenFault}
use Rattle.mx_faults.specs.declared.fault.OpenFault.TheVariants as opening
use Rattle.mx_office.specs.declared.fault.Outcomes.{Outcomes}
use Rattle.mx_apply.specs.writing.Written.{IsSettled}
use Rattle.mx_office.specs.Office.{office_state, IsReady, IsInDoubt}
use Rattle.mx_office.specs.Layout.{office_point}
use Rattle.mx_office.specs.Stands.{RestsIn}
use Rattle.mx_promise.specs.Own.{StandsHere}
use Rattle.mx_reports.specs.DueText.{due_lines}
use Rattle.mx_promise.specs.Kept.{IsBookKept}
use Rattle.mx_promise.specs.declared.again.Reopened.{Reopened}
use Rattle.mx_promise.specs.declared.again.Unopened.{Unopened}
use Rattle.mx_promise.specs.declared.again.Unopened.TheVariants.{Files, Database, Office}

-- why a list was not printed: the book has no such aircraft, or memory or the store failed
abbrev pub IsUnprinted : List Entry → List ℕ → ℕ → Ask → Type 0
IsUnprinted book tail day why = ((why ≡ Refused UnknownAircraft) × (due_list book tail day ≡ None)) ⊎ ((why ≡ Failed Memory) ⊎ (why ≡ Failed Store))

-- the text is that of the book's due list, or there is a reason for none
abbrev pub IsPrintOf : {Z : Type 0} → List Entry → List ℕ → ℕ → Result (Vec ℕ Z) Ask → Type 0
IsPrintOf book tail day printed = MatchResult printed (λ text. option_map due_lines (due_list book tail day) ≡ Some text.items) (IsUnprinted book tail day)

-- Stopped before or within any write, the file opens again to the tables of one book, which is the one from before followed by a prefix of the commands accepted since, with every acknowledged command in it; and the due list that is printed from it is that book's.
pub record IsReopened {S : Type 0} {g : Ghosts S} (own : Schema) (before commands : List Entry) (tail : List ℕ) (day : ℕ) (outcomes : Outcomes) (again : Reopened S g) : Type 0 where
  pub book : List Entry
  pub kept : IsBookKept before commands outcomes book
  pub tables : RestsIn own (office_state again.office) book
  pub printed : IsPrintOf book tail day again.printed

-- so it is, where the disk returns what was written
abbrev pub Reopens : {S : Type 0} {g : Ghosts S} → Schema → List Entry → List Entry → List ℕ → ℕ → Outcomes → Reopened S g → Type 0
Reopens own before commands tail day outcomes again = HasCleanDisk (office_state again.office) → ∥ IsReopened own before commands tail day outcomes again ∥₁

-- the office that is handed back takes commands and questions, unless the store failed as the list was asked for
pub record GoesOn {S : Type 0} {g : Ghosts S} (again : Reopened S g) : Type 0 where
  pub ready : again.printed ≢ Err (Failed Store) → IsReady again.office
  pub stopped : again.printed ≡ Err (Failed Store) → IsInDoubt again.office

-- ── where the office was not opened again ──

-- the trees are tables of the office, whatever rows they have and whatever others there are, and the row of `office` says its point
pub record SaysHere (trees : Trees) : Type 0 where
  pub schema : Schema
  pub settled : IsSettled schema
  pub sound : IsSound schema trees
  pub says : rows_in office trees ≡ point_cells office_point ∷ []

-- memory ran out, or the store failed
abbrev pub IsStopOf : OpenFault → Type 0
IsStopOf fault = (fault ≡ opening.Memory) ⊎ (fault ≡ opening.Store)

-- The disk had returned what was written, the tables are among those that a crash may have left, and where they stand for a book, no office was opened for want of memory or since the store failed.
pub record IsUnopened (before : State) (fault : OpenFault) (now : State) : Type 0 where
  pub clean : HasCleanDisk before
  pub found : IsFound before.may_leave now
  pub reason : (own : Schema) → IsSettled own → (book : List Entry) → StandsHere own book found.tables → IsStopOf fault

-- `sqlite` did not open the files: what is left of them is what a crash might leave, still, where the disks return what was written
abbrev pub MissesFiles : {D : Type 0} {g : disk.Ghosts D} → State → Error → Leftover D g → Type 0
MissesFiles {D} {g} before error left = IsFaithful g → HasCleanDisk before × IsLeft before.may_leave 0 error left

-- so it is where the connection is handed back, and the disk returns what was written
abbrev pub FindsUnopened : {D : Type 0} {g : disk.Ghosts D} → State → Unopened D g → Type 0
FindsUnopened before (Files error) = ⊥
FindsUnopened before (Database error left) = MissesFiles before error left
FindsUnopened before (Office conn fault) = HasCleanDisk (file_state conn) → ∥ IsUnopened before fault (file_state conn) ∥₁

-- The tables are those of the one book all the same, and no office was opened for want of memory or since the store failed.
pub record IsKeptUnopened (own : Schema) (before commands : List Entry) (outcomes : Outcomes) (fault : OpenFault) (now : State) : Type 0 where
  pub book : List Entry
  pub kept : IsBookKept before commands outcomes book
  pub tables : RestsIn own now book
  pub reason : IsStopOf fault

-- `sqlite` did not open the files. A crash of the connection at the loss of power may leave tables that stand for the one book, and what is left of the files is among them still; why is told.
pub record IsKeptInFiles (Standing : List Entry → Trees → Type 0) (before commands : List Entry) (outcomes : Outcomes) {D : Type 0} {g : disk.Ghosts D} (error : Error) (left : Leftover D g) : Type 0 where
  pub was : Held (FileStore D g)
  pub clean : HasCleanDisk (file_state was)
  pub books : (db : Trees) → (file_state was).may_leave db → (book : List Entry) × IsBookKept before commands outcomes book × Standing book db
  pub still : IsLeft (file_state was).may_leave 0 error left

-- so it is where the connection is handed back, and the disk returns what was written
abbrev pub KeepsUnopened : {D : Type 0} {g : disk.Ghosts D} → Schema → List Entry → List Entry → Outcomes → Unopened D g → Type 0
KeepsUnopened own before commands outcomes (Files error) = ⊥
KeepsUnopened {D} {g} own before commands outcomes (Database error left) = IsFaithful g → ∥ IsKeptInFiles (StandsHere own) before commands outcomes error left ∥₁
KeepsUnopened own before commands outcomes (Office conn fault) = HasCleanDisk (file_state conn) → ∥ IsKeptUnopened own before commands outcomes fault (file_state conn) ∥₁

-- ── two stops ──

-- The second run starts from the book that the first stop left, and each command that either run acknowledged is in the last book.
pub record IsReopenedTwice {S : Type 0} {g : Ghosts S} (own : Schema) (before commands more : List Entry) (tail : List ℕ) (day : ℕ) (first second : Outcomes) (again : Reopened S g) : Type 0 where
  pub between : List Entry
  pub before_it : IsBookKept before commands first between
  pub after_it : IsReopened own between more tail day second again
  pub still : HasAcknowledged after_it.book first.replies.items commands

-- so it is, where the disk returns what was written
abbrev pub ReopensTwice : {S : Type 0} {g : Ghosts S} → Schema → List Entry → List Entry → List Entry → List ℕ → ℕ → Outcomes → Outcomes → Reopened S g → Type 0
ReopensTwice own before commands more tail day first second again = HasCleanDisk (office_state again.office) → ∥ IsReopenedTwice own before commands more tail day first second again ∥₁
