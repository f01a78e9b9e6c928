-- The headline from the connection on: the office of a file at any point of the move is opened, commands are run, the move or the run is stopped, and the office is opened again.
use Rattle.std.specs.Prelude.{◌≡◌, ◌≢◌, ◌≤◌, ℕ, List, [], length, ⊤, Option, None, Some, Result, Ok, Err, IsTrue}
use Rattle.sqlite_disk.specs.declared.Disk as disk
use Rattle.sqlite_store.specs.declared.store.FileStore.{FileStore}
use Rattle.sqlite.specs.Store.{Ghosts}
use Rattle.sqlite.specs.Held.{Held, state}
use Rattle.sqlite.specs.Schema.{Schema}
use Rattle.sqlite.specs.State.{State, HasCleanDisk}
use Rattle.sqlite.specs.Tree.{Trees}
use Rattle.sqlite.specs.Files.{file_state, over_files}
use Rattle.mx_book.specs.commands.Act.{Entry}
use Rattle.mx_base.specs.declared.point.Point.{Point}
use Rattle.mx_database.specs.power.Left.{IsFaithful}
use Rattle.mx_layout.specs.Crash.{Leaves, RestsAs}
use Rattle.mx_migrate.specs.settle.Place.{IsPlacedAt, SaysAt}
use Rattle.mx_book_tables.specs.stands.Schemas.{IsOfFile}
use Rattle.mx_office.specs.Calls.{IsRun}
use Rattle.mx_office.specs.Opening.{AreMovedOn, MovesOn}
use Rattle.mx_office.specs.declared.office.Office.{Office as TheOffice}
use Rattle.mx_faults.specs.declared.fault.OpenFault.{OpenFault}
use Rattle.mx_faults.specs.declared.fault.OpenFault.TheVariants as opening
use Rattle.mx_office.specs.declared.fault.Outcomes.{Outcomes}
use Rattle.mx_office.specs.Layout.{office_point}
use Rattle.mx_office.specs.Office.{office_state, IsReady}
use Rattle.mx_apply.specs.writing.Written.{IsSettled}
use Rattle.mx_office.specs.Stands.{RestsIn}
use Rattle.mx_promise.specs.Own.{RestsOn, StandsOn}
use Rattle.mx_faults.specs.declared.fault.Fault.TheVariants.{NeedsReopen}
use Rattle.mx_promise.specs.Kept.{IsBookKept}
use Rattle.mx_promise.specs.Moved.{IsKeptMoving}
use Rattle.mx_promise.specs.Reopened.{IsKeptInFiles, IsPrintOf, IsStopOf, MissesFiles, SaysHere}
use Rattle.mx_promise.specs.declared.again.Reopened.{Reopened}
use Rattle.mx_promise.specs.declared.again.Unopened.{Unopened}
use Rattle.mx_promise.specs.declared.again.Unopened.TheVariants.{Files, Database, Office}

-- ── a book at some point ──

-- the tables stand for the book at a point that a file can be at
abbrev pub StandsSomewhere : Schema → List Entry → Trees → Type 0
StandsSomewhere own book trees = (at : Point) × IsOfFile at × StandsOn own at trees book

-- no transaction is open, and the tables, and each state of them that a crash may leave, stand for the book at one point that a file can be at
abbrev pub RestsSomewhere : Schema → List Entry → State → Type 0
RestsSomewhere own book now = (at : Point) × IsOfFile at × RestsOn own at now book

-- the tables stand for the book at a point, at which a file can be if one can be at this one
abbrev pub StandsFurther : Schema → Point → List Entry → Trees → Type 0
StandsFurther own at book trees = (to : Point) × (IsOfFile at → IsOfFile to) × StandsOn own to trees book

-- they do so for the one book that a stop leaves
abbrev pub StandsKept : Schema → Point → List Entry → List Entry → Outcomes → Trees → Type 0
StandsKept own at before commands outcomes trees = (book : List Entry) × IsBookKept before commands outcomes book × StandsFurther own at book trees

-- ── what was answered ──

-- An office was opened in the file, which moved it first where it was older, and commands were run in that.
pub record IsOpenedAndRun {S : Type 0} (g : Ghosts S) (commands : List Entry) (outcomes : Outcomes) (was : Held S) : Type 0 where
  pub office : TheOffice S g
  pub after : TheOffice S g
  pub moves : MovesOn (state g was) (office_state office) None
  pub ready : IsReady office
  pub run : IsRun commands outcomes.replies.items outcomes.stopped office after

-- What the commands were answered where an office was opened for them; where none was, none of them was run. Whatever is found behind that, the office that is opened again is fed by it.
pub record AreTold {S : Type 0} (g : Ghosts S) (commands : List Entry) (unopened : Option OpenFault) (outcomes : Outcomes) (was : Held S) : Type 0 where
  pub ran : unopened ≡ None → IsOpenedAndRun g commands outcomes was
  -- with no office there is no reply, and no stop of a run
  pub unrun : unopened ≢ None → outcomes.replies.items ≡ []
  pub unstopped : unopened ≢ None → outcomes.stopped ≡ None
  -- an office that was just opened never says that it has to be opened again
  pub usable : outcomes.stopped ≢ Some NeedsReopen
  -- no command has two replies, and each has one where nothing stopped the run
  pub counted : length outcomes.replies.items ≤ length commands
  pub done : unopened ≡ None → outcomes.stopped ≡ None → length outcomes.replies.items ≡ length commands

-- The connection in which no office was opened for this reason stands for the book at some point; where the store failed in the move, each state that a crash may leave does.
pub record IsLeftFor (own : Schema) (book : List Entry) (fault : OpenFault) (now : State) : Type 0 where
  pub rests : fault ≢ opening.Store → RestsSomewhere own book now
  pub crash : Leaves now (StandsSomewhere own book)

-- ── where no office was opened again ──

-- The tables are those of the one book all the same, at some point of the move, and no office was opened for want of memory or since the store failed.
pub record IsKeptSomewhere (own : Schema) (before commands : List Entry) (outcomes : Outcomes) (fault : OpenFault) (now : State) : Type 0 where
  pub book : List Entry
  pub kept : IsBookKept before commands outcomes book
  pub tables : IsLeftFor own book fault now
  pub reason : IsStopOf fault

-- so it is where the connection is handed back, and the disk returns what was written
abbrev pub KeepsSomewhere : {D : Type 0} {g : disk.Ghosts D} → Schema → List Entry → List Entry → Outcomes → Unopened D g → Type 0
KeepsSomewhere own before commands outcomes (Files error) = ⊥
KeepsSomewhere {D} {g} own before commands outcomes (Database error left) = IsFaithful g → ∥ IsKeptInFiles (StandsSomewhere own) before commands outcomes error left ∥₁
KeepsSomewhere own before commands outcomes (Office conn fault) = HasCleanDisk (file_state conn) → ∥ IsKeptSomewhere own before commands outcomes fault (file_state conn) ∥₁

-- ── an opening behind a loss of power, of any book ──

-- The tables that were found are among those that a crash may have left. Where they stood for a book, at whatever point, those of the office stand for it. Where they were those of a file at some point, whatever rows they have, the office is at its own, and each state that the next crash may leave is what steps of the move make of them; and where that was theirs they are as they were found.
pub record IsOpenedAgain (before now : State) : Type 0 where
  pub tables : Trees
  pub left : before.may_leave tables
  pub books : (own : Schema) (at : Point) (book : List Entry) → StandsOn own at tables book → RestsIn own now book
  pub placed : (at : Point) → SaysAt at tables → IsPlacedAt office_point now
  pub moved : (at : Point) → SaysAt at tables → Leaves now (AreMovedOn at tables)
  pub settled : (here : SaysHere tables) → RestsAs now here.schema (λ db. db ≡ tables)

-- so it is, where the disk returns what was written
abbrev pub FindsAgain : State → State → Type 0
FindsAgain before now = HasCleanDisk now → ∥ IsOpenedAgain before now ∥₁

-- The disk had returned what was written, and the tables that were found are among those that a crash may have left. Where they stood for a book, at whatever point, the connection stands for it still, there or further on, and where a file can be at that point no office was opened for want of memory or since the store failed. Where they were those of a file at some point, whatever rows they have: they are what steps of the move made of them, unless the store failed, and so is each state that the next crash may leave; and where that point was the office's they are as they were found.
pub record IsUnopenedAgain (before : State) (fault : OpenFault) (now : State) : Type 0 where
  pub clean : HasCleanDisk before
  pub tables : Trees
  pub left : before.may_leave tables
  pub books : (own : Schema) (at : Point) (book : List Entry) → StandsOn own at tables book → IsKeptMoving own at book fault now
  pub made : (at : Point) → SaysAt at tables → fault ≢ opening.Store → IsTrue now.is_open → AreMovedOn at tables now.now.trees
  pub moved : (at : Point) → SaysAt at tables → Leaves now (AreMovedOn at tables)
  pub settled : (here : SaysHere tables) → RestsAs now here.schema (λ db. db ≡ tables)

-- so it is where the connection is handed back, and the disk returns what was written
abbrev pub MissesAgain : {D : Type 0} {g : disk.Ghosts D} → State → Unopened D g → Type 0
MissesAgain before (Files error) = ⊥
MissesAgain before (Database error left) = MissesFiles before error left
MissesAgain before (Office conn fault) = HasCleanDisk (file_state conn) → ∥ IsUnopenedAgain before fault (file_state conn) ∥₁

-- The tables that were found are among those that a crash may have left. Where they stood for a book, at whatever point, the office stands for it, and the due list that is printed is that book's.
pub record IsPrintedAgain {S : Type 0} {g : Ghosts S} (before : State) (tail : List ℕ) (day : ℕ) (again : Reopened S g) : Type 0 where
  pub tables : Trees
  pub left : before.may_leave tables
  pub books : (own : Schema) (at : Point) (book : List Entry) → StandsOn own at tables book → RestsIn own (office_state again.office) book
  pub printed : (own : Schema) (at : Point) (book : List Entry) → StandsOn own at tables book → IsPrintOf book tail day again.printed

-- so it is, where the disk returns what was written
abbrev pub PrintsAgain : {S : Type 0} {g : Ghosts S} → State → List ℕ → ℕ → Reopened S g → Type 0
PrintsAgain before tail day again = HasCleanDisk (office_state again.office) → ∥ IsPrintedAgain before tail day again ∥₁

-- ── what a stop leaves for the next opening ──

-- the disk has returned what was written, to the connection that is handed back; or it is one that does
abbrev pub IsLeftClean : {D : Type 0} {g : disk.Ghosts D} → Unopened D g → Type 0
IsLeftClean (Office conn fault) = HasCleanDisk (file_state conn)
IsLeftClean {D} {g} (Database error left) = IsFaithful g
IsLeftClean (Files error) = ⊥

-- the disk has returned what was written
abbrev pub IsThereClean : {D : Type 0} {g : disk.Ghosts D} → Result (Reopened (FileStore D g) over_files) (Unopened D g) → Type 0
IsThereClean (Ok again) = HasCleanDisk (office_state again.office)
IsThereClean (Err why) = IsLeftClean why

-- a connection is handed back, and the disk has returned what was written
abbrev pub IsHandedClean : {D : Type 0} {g : disk.Ghosts D} → Result (Reopened (FileStore D g) over_files) (Unopened D g) → Type 0
IsHandedClean (Ok again) = HasCleanDisk (office_state again.office)
IsHandedClean (Err (Office conn fault)) = HasCleanDisk (file_state conn)
IsHandedClean (Err (Database error left)) = ⊥
IsHandedClean (Err (Files error)) = ⊥

-- the office stands for the book; or each state that a crash may leave of the connection that is handed back does
abbrev pub IsLeftStanding : {D : Type 0} {g : disk.Ghosts D} → Schema → List Entry → Result (Reopened (FileStore D g) over_files) (Unopened D g) → Type 0
IsLeftStanding own book (Ok again) = IsSettled own × RestsIn own (office_state again.office) book
IsLeftStanding own book (Err (Office conn fault)) = Leaves (file_state conn) (StandsSomewhere own book)
IsLeftStanding own book (Err (Database error left)) = ⊤
IsLeftStanding own book (Err (Files error)) = ⊤

-- ── what is left of files that were not opened ──

-- the office stands for the one book
pub record IsKeptBehind {S : Type 0} {g : Ghosts S} (own : Schema) (before commands : List Entry) (outcomes : Outcomes) (again : TheOffice S g) : Type 0 where
  pub book : List Entry
  pub kept : IsBookKept before commands outcomes book
  pub tables : RestsIn own (office_state again) book

-- so it is, where the disk returns what was written
abbrev pub FindsKept : {S : Type 0} {g : Ghosts S} → Schema → List Entry → List Entry → Outcomes → TheOffice S g → Type 0
FindsKept own before commands outcomes again = HasCleanDisk (office_state again) → ∥ IsKeptBehind own before commands outcomes again ∥₁
