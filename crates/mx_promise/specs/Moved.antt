-- What is found of a file whose office was being opened, at whatever point it was on its way to the newest layout.
use Rattle.std.specs.Prelude.{◌≢◌, ℕ, List}
use Rattle.sqlite_disk.specs.declared.Disk as disk
use Rattle.sqlite.specs.Store.{Ghosts}
use Rattle.sqlite.specs.Schema.{Schema}
use Rattle.sqlite.specs.State.{State, HasCleanDisk}
use Rattle.sqlite.specs.Tree.{Trees}
use Rattle.sqlite.specs.Files.{file_state}
use Rattle.mx_book.specs.commands.Act.{Entry}
use Rattle.mx_layout.specs.Crash.{Leaves}
use Rattle.mx_database.specs.power.Left.{IsFaithful, IsLeft}
use Rattle.mx_base.specs.declared.point.Point.{Point}
use Rattle.mx_registers.specs.points.Commits.{point_behind}
use Rattle.mx_book_tables.specs.stands.Schemas.{IsOfFile}
use Rattle.mx_faults.specs.declared.fault.OpenFault.{OpenFault}
use Rattle.mx_faults.specs.declared.fault.OpenFault.TheVariants as opening
use Rattle.mx_office.specs.declared.office.Office.{Office as TheOffice}
use Rattle.mx_office.specs.Office.{office_state}
use Rattle.mx_office.specs.Stands.{RestsIn}
use Rattle.mx_promise.specs.Own.{RestsOn, StandsOn}
use Rattle.mx_promise.specs.Reopened.{IsStopOf}
use Rattle.mx_promise.specs.declared.again.Unopened.{Unopened}
use Rattle.mx_promise.specs.declared.again.Unopened.TheVariants.{Files, Database, Office}

-- the tables stand for the book at a point, or at one behind it on the way to the newest layout
abbrev pub StandsMoving : Schema → Point → List Entry → Trees → Type 0
StandsMoving own at book trees = (commits : ℕ) × StandsOn own (point_behind commits at book) trees book

-- where the disk returns what was written, the office stands for this book
abbrev pub FindsBook : {S : Type 0} {g : Ghosts S} → Schema → List Entry → TheOffice S g → Type 0
FindsBook own book again = HasCleanDisk (office_state again) → ∥ RestsIn own (office_state again) book ∥₁

-- No office was opened again: the tables stand for the book at that point or at one behind it, unless the store failed, and so does whatever a crash leaves; and where a file can be at the point, memory or the store is why.
pub record IsKeptMoving (own : Schema) (at : Point) (book : List Entry) (fault : OpenFault) (now : State) : Type 0 where
  pub rests : fault ≢ opening.Store → (commits : ℕ) × RestsOn own (point_behind commits at book) now book
  pub crash : Leaves now (StandsMoving own at book)
  pub reason : IsOfFile at → IsStopOf fault

-- so it is where the connection is handed back, and the disk returns what was written
abbrev pub KeepsMoving : {D : Type 0} {g : disk.Ghosts D} → Schema → Point → List Entry → Unopened D g → Type 0
KeepsMoving own at book (Files error) = ⊥
KeepsMoving {D} {g} own at book (Database error left) = IsFaithful g → IsLeft (StandsMoving own at book) 0 error left
KeepsMoving own at book (Office conn fault) = HasCleanDisk (file_state conn) → ∥ IsKeptMoving own at book fault (file_state conn) ∥₁
