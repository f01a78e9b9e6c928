-- What an open after a crash may find, as a book.
use Rattle.std.specs.Prelude.{◌≡◌, true, IsTrue}
use Rattle.sqlite.specs.Schema.{Schema}
use Rattle.sqlite.specs.Tree.{Trees}
use Rattle.sqlite.specs.Store.{Ghosts}
use Rattle.sqlite.specs.Held.{state}
use Rattle.sqlite.specs.State.{State, HasCleanDisk, Shows, Survives, KeepsCommit}
use Rattle.sqlite.specs.declared.transaction.Transaction.{Transaction}

-- Each state of the tables that a crash at this moment may leave has P, where the disk has returned what was written.
abbrev pub Leaves : State → (Trees → Type 0) → Type 0
Leaves s P = HasCleanDisk s → (db : Trees) → s.may_leave db → P db

-- With no transaction, the tables are of this schema and have P while the connection is open, and each state that a crash may leave has P.
pub record RestsAs (s : State) (of : Schema) (P : Trees → Type 0) : Type 0 where
  pub schema : HasCleanDisk s → IsTrue s.is_open → s.now.schema ≡ of
  pub tables : HasCleanDisk s → IsTrue s.is_open → P s.now.trees
  pub settled : HasCleanDisk s → IsTrue s.is_open → s.now ≡ s.committed
  pub crash : Leaves s P

-- the connection was open and is, inside the transaction, whose last commit is as it was
abbrev pub StaysInside : State → State → Type 0
StaysInside old new = Shows old new new.now old.committed true

-- calls inside a transaction: a crash has no new outcome, and the last commit stands
pub record IsWithin (old new : State) : Type 0 where
  pub survives : Survives old new (λ _. ⊥)
  pub kept : HasCleanDisk new → IsTrue old.in_transaction → KeepsCommit old new

-- What a call inside a transaction leaves of it, where `answered` says of a fact that it holds if the call was answered.
pub record StaysIn {S : Type 0} (g : Ghosts S) (answered : Type 0 → Type 0) (old new : Transaction S) : Type 0 where
  -- it is the transaction of the same connection
  pub same_reference : new.conn.ghost_name ≡ old.conn.ghost_name
  -- a call that was answered found the connection open, and leaves the transaction open and the last commit as it was
  pub inside : HasCleanDisk (state g new.conn.now) → IsTrue (state g old.conn.now).in_transaction → answered (StaysInside (state g old.conn.now) (state g new.conn.now))
  -- whatever it answered, a crash has no new outcome, and the last commit stands
  pub within : IsWithin (state g old.conn.now) (state g new.conn.now)

-- A call outside a transaction that changed nothing: a crash has no new outcome, and the tables are those of the last commit.
pub record ChangesNothing (old new : State) : Type 0 where
  pub survives : Survives old new (λ _. ⊥)
  pub was_open : HasCleanDisk new → IsTrue new.is_open → IsTrue old.is_open
  pub now_is : HasCleanDisk new → IsTrue new.is_open → new.now ≡ old.committed
  pub committed_is : HasCleanDisk new → IsTrue new.is_open → new.committed ≡ old.committed
