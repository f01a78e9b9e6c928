-- What is found where a database is opened again after a stop.
use Rattle.std.specs.Prelude.{◌≡◌, IsTrue}
use Rattle.sqlite_disk.specs.declared.Disk.{Ghosts}
use Rattle.sqlite_wal.specs.Recovery.{Image}
use Rattle.sqlite_trees.specs.View.{IsClean}
use Rattle.sqlite_store.specs.declared.store.FileStore.{FileStore}
use Rattle.sqlite_store.specs.FileStore as files
use Rattle.sqlite.specs.Schema.{Schema}
use Rattle.sqlite.specs.Tree.{Trees}
use Rattle.sqlite.specs.State.{State, HasCleanDisk}
use Rattle.sqlite.specs.Held.{Held, AreDatabases}
use Rattle.sqlite.specs.Files.{file_state}
use Rattle.sqlite_catalog.specs.Listing.{IsSound}
use Rattle.mx_layout.specs.Crash.{RestsAs}

-- The tables are among those that a crash may have left; no transaction is open, and each state that the next crash may leave is these tables.
pub record IsFound (may_leave : Trees → Type 0) (now : State) : Type 0 where
  pub schema : Schema
  pub tables : Trees
  pub left : may_leave tables
  pub sound : IsSound schema tables
  pub rests : RestsAs now schema (λ db. db ≡ tables)

-- where the disk returns what was written, what is open now is one of the states that a crash may have left
abbrev pub Finds : (Trees → Type 0) → State → Type 0
Finds may_leave now = HasCleanDisk now → ∥ IsFound may_leave now ∥₁

-- ── from one process to the next ──

-- What a process leaves of a connection as it ends: over a disk that returned what was written, a store each of whose states is a database; and each is one that a crash of the connection may leave.
pub record IsEndOf {D : Type 0} {g : Ghosts D} (conn : Held (FileStore D g)) (store : FileStore D g) : Type 0 where
  pub clean : IsClean (files.view store) → HasCleanDisk (file_state conn)
  pub left : (db : Trees) → files.recovers store db → (file_state conn).may_leave db
  pub numbered : IsClean (files.view store) → IsTrue (files.view store).is_numbered
  pub databases : IsClean (files.view store) → AreDatabases (files.recovers store)

-- The two files hold what a process that ended with this store may have left of them, over a disk that returned what was written: what a loss of power may leave, the end of the process among it.
pub record WasLeft {D : Type 0} {g : Ghosts D} (store : FileStore D g) (contents : Image) : Type 0 where
  pub clean : IsClean (files.view store)
  pub among : (files.state store).may_leave contents
