-- What is left of two files that `sqlite` did not open, and why it did not.
use Rattle.std.specs.Prelude.{◌≡◌, ◌≢◌, ◌⊎◌, ℕ, ◌+◌, List, ⊤, Some, length, IsTrue}
use Rattle.sqlite_disk.specs.declared.Disk.{Ghosts}
use Rattle.sqlite_disk.specs.Disk.{MoreFaults}
use Rattle.sqlite_wal.specs.Recovery.{Image, Pages, Recovers}
use Rattle.sqlite_wal.specs.Files.{outcomes}
use Rattle.sqlite_wal.specs.Format.{be32}
use Rattle.sqlite_store.specs.declared.store.FileStore.{FileStore}
use Rattle.sqlite_store.specs.FileStore.{recovers}
use Rattle.sqlite.specs.Tree.{Trees}
use Rattle.sqlite.specs.Files.{file_state, HoldsDatabase, IsFullLeft, faults_left}
use Rattle.sqlite.specs.Held.{Held}
use Rattle.sqlite.specs.Closing.{files_left}
use Rattle.sqlite.specs.declared.error.Error.{Error}
use Rattle.sqlite.specs.declared.error.Error.TheVariants.{SqliteFailure}
use Rattle.sqlite.specs.declared.error.ErrorCode.TheVariants.{OutOfMemory, DiskFull}
use Rattle.sqlite.specs.declared.file.Leftover.{Leftover}
use Rattle.sqlite.specs.declared.file.Leftover.TheVariants.{Files, Unopened, Store}

-- each disk of a kind returns what was written, whatever is done with it
abbrev pub IsFaithful : {D : Type 0} → Ghosts D → Type 0
IsFaithful {D} g = (disk : D) → IsTrue (g.is_clean disk)

-- the first page, whatever its size, does not say that eight bytes behind each page are a sum of it: so it is with a file that no extension of `sqlite` made
abbrev pub SaysNoSums : Image → Type 0
SaysNoSums image = (size : ℕ) (pages : Pages) (first : List ℕ) → Recovers size image pages → pages 1 ≡ Some first → length first ≡ size → be32 first 20 ≢ 0x0840_2020

module _ {D : Type 0} {g : Ghosts D} where
  -- what a crash at this moment may leave of the two files
  abbrev pub MayBeLeft : Leftover D g → Image → Type 0
  MayBeLeft left = outcomes g (files_left left).0 (files_left left).1

  -- whatever a crash may leave of the files holds a database, whose tables are among these
  abbrev pub HoldsAmong : (Trees → Type 0) → Leftover D g → Type 0
  HoldsAmong among left = (image : Image) → MayBeLeft left image → ∥ ((db : Trees) × among db × HoldsDatabase image db) ∥₁

  -- so it is with the tables that a crash of this connection may have left
  abbrev pub HoldsWhatIsLeftOf : Held (FileStore D g) → Leftover D g → Type 0
  HoldsWhatIsLeftOf conn left = HoldsAmong (file_state conn).may_leave left

  -- The files can be opened once more: as they are, where nothing was written; where recovery was under way, if they are files without sums. Where their schema alone was not read, no clause of `sqlite` says what its store numbers.
  abbrev pub OpensOnceMore : Leftover D g → Type 0
  OpensOnceMore (Files files) = ⊤
  OpensOnceMore (Unopened files) = (image : Image) → MayBeLeft (Unopened files) image → SaysNoSums image
  OpensOnceMore (Store it) = ⊥

  -- how often the disks of the files have failed or refused
  abbrev pub faults_of_files : Leftover D g → ℕ
  faults_of_files left = g.faults (files_left left).0 + g.faults (files_left left).1

  -- What is left of files that held a database among these holds one still, where they can be opened once more; where their schema alone was not read, the tables to which they recover are among these.
  abbrev pub StandsStill : (Trees → Type 0) → Leftover D g → Type 0
  StandsStill among (Files files) = HoldsAmong among (Files files)
  StandsStill among (Unopened files) = OpensOnceMore (Unopened files) → HoldsAmong among (Unopened files)
  StandsStill among (Store it) = (db : Trees) → recovers it db → ∥ among db ∥₁

  -- memory ran out, a disk has failed since, or a limit of the format is met
  abbrev pub IsStopOfOpening : ℕ → Error → Leftover D g → Type 0
  IsStopOfOpening faults error left =
      (error ≡ SqliteFailure OutOfMemory) ⊎ (MoreFaults faults (faults_left left) ⊎ ((error ≡ SqliteFailure DiskFull) × IsFullLeft left))

  -- `sqlite` did not open files that held a database among these: why is told, and what is left holds one still
  pub record IsLeft (among : Trees → Type 0) (faults : ℕ) (error : Error) (left : Leftover D g) : Type 0 where
    pub stands : StandsStill among left
    pub reason : IsStopOfOpening faults error left
