-- What a process leaves of a run as it ends.
use Rattle.std.specs.Prelude.{◌≡◌, ◌⊎◌, List, None, Option, Some}
use Rattle.sqlite_disk.specs.declared.Disk.{Ghosts}
use Rattle.sqlite_store.specs.declared.store.FileStore.{FileStore}
use Rattle.sqlite.specs.Schema.{Schema}
use Rattle.sqlite.specs.Files.{file_state, IsCleanLeft}
use Rattle.sqlite.specs.declared.error.Error.{Error}
use Rattle.sqlite.specs.declared.error.Error.TheVariants.{SqliteFailure}
use Rattle.sqlite.specs.declared.error.ErrorCode.TheVariants.{CannotOpen, DatabaseBusy, OutOfMemory}
use Rattle.sqlite.specs.Held.{Held}
use Rattle.sqlite.specs.Tree.{Trees}
use Rattle.sqlite.specs.declared.file.Leftover.{Leftover}
use Rattle.mx_book.specs.commands.Act.{Entry}
use Rattle.mx_layout.specs.Crash.{Leaves}
use Rattle.mx_database.specs.power.Found.{IsEndOf}
use Rattle.mx_database.specs.power.Left.{IsLeft}
use Rattle.mx_apply.specs.writing.Written.{IsSettled}
use Rattle.mx_promise.specs.Own.{StandsHere}
use Rattle.mx_promise.specs.Kept.{IsBookKept}
use Rattle.mx_office.specs.declared.fault.Outcomes.{Outcomes}
use Rattle.mx_promise.specs.Opened.{KeepsSomewhere, StandsSomewhere}
use Rattle.mx_promise.specs.Reopened.{KeepsUnopened}
use Rattle.mx_promise.specs.declared.again.Unopened.{Unopened}
use Rattle.mx_promise.specs.declared.again.Unopened.TheVariants.{Files, Database, Office}
use Rattle.mx_promise.specs.declared.next_process.Ended.{Ended}

-- The store is what the process left of a connection, and each state of the tables that a crash of it may leave stands for the book from before and the first of the commands accepted since, with every acknowledged command in it.
pub record IsEnded {D : Type 0} {g : Ghosts D} (own : Schema) (before commands : List Entry) (ended : Ended D g) : Type 0 where
  pub settled : IsSettled own
  pub conn : Held (FileStore D g)
  pub left : IsEndOf conn ended.store
  pub books : Leaves (file_state conn) (λ db. (book : List Entry) × IsBookKept before commands ended.outcomes book × StandsHere own book db)

-- The same of a process in which the office was opened first, whose move may have been stopped: each state of the tables that a crash may leave stands for the book at some point that a file can be at.
pub record IsEndedSomewhere {D : Type 0} {g : Ghosts D} (own : Schema) (before commands : List Entry) (ended : Ended D g) : Type 0 where
  pub conn : Held (FileStore D g)
  pub left : IsEndOf conn ended.store
  pub books : Leaves (file_state conn) (λ db. (book : List Entry) × IsBookKept before commands ended.outcomes book × StandsSomewhere own book db)

-- ── where the next process opens no office ──

-- why no database was opened, with what is left of its files where these were
abbrev pub without_database : {D : Type 0} {g : Ghosts D} → Error → Option (Leftover D g) → Unopened D g
without_database error (Some left) = Database error left
without_database error None = Files error

-- not even the files were opened: there is none to be opened, memory ran out, or another process holds them
abbrev pub IsClosedFile : Error → Type 0
IsClosedFile error = (error ≡ SqliteFailure CannotOpen) ⊎ ((error ≡ SqliteFailure OutOfMemory) ⊎ (error ≡ SqliteFailure DatabaseBusy))

-- `sqlite` did not open them, and what is left of them holds what they held, where the disk returned that
abbrev pub LeavesKept : (Trees → Type 0) → {D : Type 0} {g : Ghosts D} → Error → Leftover D g → Type 0
LeavesKept among error left = IsCleanLeft left → IsLeft among 0 error left

-- what the process left stands for the one book still, at the point of the office
abbrev pub NextKeepsUnopened : {D : Type 0} {g : Ghosts D} → Schema → List Entry → List Entry → Outcomes → Unopened D g → Type 0
NextKeepsUnopened own before commands outcomes (Files error) = IsClosedFile error
NextKeepsUnopened own before commands outcomes (Database error left) = LeavesKept (λ db. (book : List Entry) × IsBookKept before commands outcomes book × StandsHere own book db) error left
NextKeepsUnopened own before commands outcomes (Office conn fault) = KeepsUnopened own before commands outcomes (Office conn fault)

-- or at some point
abbrev pub NextKeepsSomewhere : {D : Type 0} {g : Ghosts D} → Schema → List Entry → List Entry → Outcomes → Unopened D g → Type 0
NextKeepsSomewhere own before commands outcomes (Files error) = IsClosedFile error
NextKeepsSomewhere own before commands outcomes (Database error left) = LeavesKept (λ db. (book : List Entry) × IsBookKept before commands outcomes book × StandsSomewhere own book db) error left
NextKeepsSomewhere own before commands outcomes (Office conn fault) = KeepsSomewhere own before commands outcomes (Office conn fault)
