-- What a step of a move does inside a transaction, and what its commit does to a file.
use Rattle.std.specs.Prelude.{◌≡◌, ◌≢◌, ◌⊎◌, ◌≤◌, List, Result, Err, IsTrue, OnOk, IfOk, IfErr}
use Rattle.sqlite.specs.Tree.{Trees}
use Rattle.sqlite.specs.State.{State, HasCleanDisk}
use Rattle.sqlite_trees.specs.View.{doubt}
use Rattle.mx_book.specs.commands.Act.{Entry}
use Rattle.mx_base.specs.declared.point.Point.{Point}
use Rattle.mx_moves.specs.steps.Next.{next_in_move}
use Rattle.mx_layout.specs.TableName.{TableName}
use Rattle.mx_layout.specs.declared.fault.TableFault.{TableFault}
use Rattle.mx_layout.specs.declared.fault.TableFault.TheVariants.{Memory, Store, Damaged}
use Rattle.mx_layout.specs.Crash.{Leaves, RestsAs, StaysInside, IsWithin, ChangesNothing}
use Rattle.mx_book_tables.specs.stands.Schemas.{schema_at}
use Rattle.mx_book_tables.specs.stands.Stands.{LiesAt, StandsAt, RestsAt}
use Rattle.mx_tables.specs.Calls.{OnRead}
use Rattle.mx_tables.specs.inserts.Sets.{IsInside}
use Rattle.mx_faults.specs.declared.moving.MoveFault.{MoveFault}
use Rattle.mx_faults.specs.declared.moving.MoveFault.TheVariants as stop

-- The statements of a step ran inside a transaction, over the tables of a point that the step is for, whatever rows they have. They made of the tables what the step makes of them, and the point that they lead to is answered; or a table is damaged, in a way that the step names; or want of memory or the store stopped the call.
pub record Runs (IsAt : Point → Type 0) (Makes : Point → Point → Trees → Trees → Type 0) (IsOff : Point → TableName → Trees → Type 0) (old new : State) (result : Result Point TableFault) : Type 0 where
  pub made : HasCleanDisk new → IsInside old → (at : Point) → IsAt at → old.now.schema ≡ schema_at at → LiesAt at old.now.trees
      → IfOk result (λ to. (new.now.schema ≡ schema_at to) × Makes at to old.now.trees new.now.trees)
  pub cause : IfErr result (λ e. (e ≡ Memory) ⊎ ((e ≡ Store) ⊎ ((name : TableName) × (e ≡ Damaged name))))
  pub damaged : HasCleanDisk new → (at : Point) → IsAt at → old.now.schema ≡ schema_at at → (name : TableName) → result ≡ Err (Damaged name) → IsOff at name old.now.trees
  pub inside : HasCleanDisk new → IsTrue old.in_transaction → OnRead result (StaysInside old new)
  pub within : IsWithin old new

-- A step was run in a transaction of its own, which was committed. Any answer but that of the store, where it is an error, changed nothing.
pub record CommitsStep (IsAt : Point → Type 0) (IsDue : Point → List Entry → Type 0) (Makes : Point → Point → Trees → Trees → Type 0) (IsOff : Point → TableName → Trees → Type 0) (old new : State) (result : Result Point MoveFault) : Type 0 where
  pub clean : doubt old.is_clean ≤ doubt new.is_clean
  pub cause : IfErr result (λ e. (e ≡ stop.Memory) ⊎ ((e ≡ stop.Store) ⊎ ((name : TableName) × (e ≡ stop.Damaged name))))
  pub untouched : IfErr result (λ e. e ≢ stop.Store → ChangesNothing old new)
  -- it was answered by a connection that was open, and is
  pub opened : HasCleanDisk new → OnOk result (IsTrue old.is_open × IsTrue new.is_open)
  -- over any rows: the file is at the point that is answered, with what the step makes of its tables; each state that a crash may leave is one from before, or has that; and damage is as the step names it
  pub made : (at : Point) → RestsAs old (schema_at at) (LiesAt at) → (HasCleanDisk old → IsAt at) → IfOk result (λ to. RestsAs new (schema_at to) (Makes at to old.now.trees))
  pub left : (at : Point) → RestsAs old (schema_at at) (LiesAt at) → (HasCleanDisk old → IsAt at) → Leaves new (λ db. old.may_leave db ⊎ (IsTrue old.is_open × ((to : Point) × Makes at to old.now.trees db)))
  pub damaged : (at : Point) → RestsAs old (schema_at at) (LiesAt at) → (HasCleanDisk old → IsAt at) → HasCleanDisk new → IfErr result (λ e. (name : TableName) → e ≡ stop.Damaged name → IsTrue old.is_open × IsOff at name old.now.trees)
  -- where the tables stood for a book at a point at which the step is due: they stand for it at the next point, which is answered; and no table is damaged
  pub moved : (at : Point) (book : List Entry) → RestsAt at old book → (HasCleanDisk old → IsAt at × IsDue at book) → HasCleanDisk new → IfOk result (λ to. to ≡ next_in_move at book)
  pub kept : (at : Point) (book : List Entry) → RestsAt at old book → (HasCleanDisk old → IsAt at × IsDue at book) → OnOk result (RestsAt (next_in_move at book) new book)
  pub same : (at : Point) (book : List Entry) → RestsAt at old book → IfErr result (λ e. e ≢ stop.Store → RestsAt at new book)
  pub whole : (at : Point) (book : List Entry) → RestsAt at old book → (HasCleanDisk old → IsAt at × IsDue at book) → HasCleanDisk new → IfErr result (λ e. (e ≡ stop.Memory) ⊎ (e ≡ stop.Store))

-- a crash leaves the tables that stood for a book, at a point at which the step is due, to stand for it there or at the next point
abbrev pub LeavesOneBook : (Point → Type 0) → (Point → List Entry → Type 0) → State → State → Type 0
LeavesOneBook IsAt IsDue old new = (at : Point) (book : List Entry) → RestsAt at old book → (HasCleanDisk old → IsAt at × IsDue at book) → Leaves new (λ trees. StandsAt at trees book ⊎ StandsAt (next_in_move at book) trees book)
