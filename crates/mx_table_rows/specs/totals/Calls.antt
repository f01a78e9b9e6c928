-- What a call that reads from a table does to a connection, and one that changes rows of it.
use Rattle.std.specs.Prelude.{◌≡◌, ◌≢◌, ◌⊎◌, Bool, List, map, Result, Err, OnOk, IfOk, IfErr, IsTrue, IsPermutation, if◌then◌else◌}
use Rattle.std.specs.List.{AllByRecursion}
use Rattle.sqlite.specs.Order.{Row}
use Rattle.sqlite.specs.Table.{Table}
use Rattle.sqlite.specs.Effect.{Database, IsDatabase}
use Rattle.sqlite.specs.State.{State, HasCleanDisk, IsUnchanged}
use Rattle.mx_layout.specs.declared.fault.TableFault.{TableFault}
use Rattle.mx_layout.specs.declared.fault.TableFault.TheVariants.{Memory, Store, Damaged}
use Rattle.mx_layout.specs.Contents.{rows_in, HasNoReferences, Rises}
use Rattle.mx_layout.specs.Crash.{StaysInside, IsWithin}
use Rattle.mx_layout.specs.Names.{table_named}
use Rattle.mx_layout.specs.kept.Kept.{Kept}
use Rattle.mx_tables.specs.Calls.{OnRead}
use Rattle.mx_tables.specs.inserts.Sets.{IsInside}

-- the rows that pass the test, changed, and the others as they are
abbrev pub change_where : (Row → Bool) → (Row → Row) → List Row → List Row
change_where test change rows = map (λ row. if test row then change row else row) rows

-- the rows of the table became what is made of them, in some order, and each other table of the schema is as it was
pub record Becomes (table : Table) (made : List Row → List Row) (old new : Database) : Type 0 where
  pub schema : new.schema ≡ old.schema
  pub rows : IsPermutation (made (rows_in table old.trees)) (rows_in table new.trees)
  pub others : AllByRecursion (λ t. t.tree ≢ table.tree → new.trees t.tree ≡ old.trees t.tree) old.schema.tables
  pub rises : Rises table new.trees
  pub sound : IsDatabase old → IsDatabase new

-- something was read of the rows of a table, or they are bad, and nothing changed; or want of memory or the store stopped the call
pub record ReadsFrom {X V : Type 0} (k : Kept X) (Is : List Row → V → Type 0) (AreBad : List Row → Type 0) (old new : State) (result : Result V TableFault) : Type 0 where
  pub value : HasCleanDisk new → k.IsIn old.now.schema → IfOk result (Is (rows_in (table_named k.name) old.now.trees))
  pub cause : IfErr result (λ e. (e ≡ Memory) ⊎ ((e ≡ Store) ⊎ (e ≡ Damaged k.name)))
  pub damaged : HasCleanDisk new → k.IsIn old.now.schema → result ≡ Err (Damaged k.name) → AreBad (rows_in (table_named k.name) old.now.trees)
  pub unchanged : HasCleanDisk new → k.IsIn old.now.schema → OnRead result (IsUnchanged old new)
  pub inside : HasCleanDisk new → IsTrue old.in_transaction → OnRead result (StaysInside old new)
  pub within : IsWithin old new

-- a table, whose rows were good, changed in this way, and nothing else did; or they are bad, and nothing changed; or want of memory or the store stopped the call
pub record ChangesTable {X V : Type 0} (k : Kept X) (Changes : Database → Database → Type 0) (AreGood AreBad : List Row → Type 0) (old new : State) (result : Result V TableFault) : Type 0 where
  pub becomes : HasCleanDisk new → IsTrue old.in_transaction → k.IsIn old.now.schema → HasNoReferences old.now.schema → Rises (table_named k.name) old.now.trees → OnOk result (Changes old.now new.now)
  pub good : HasCleanDisk new → k.IsIn old.now.schema → OnOk result (AreGood (rows_in (table_named k.name) old.now.trees))
  pub cause : IfErr result (λ e. (e ≡ Memory) ⊎ ((e ≡ Store) ⊎ (e ≡ Damaged k.name)))
  pub damaged : HasCleanDisk new → k.IsIn old.now.schema → result ≡ Err (Damaged k.name) → AreBad (rows_in (table_named k.name) old.now.trees)
  pub unchanged : HasCleanDisk new → k.IsIn old.now.schema → result ≡ Err (Damaged k.name) → IsUnchanged old new
  pub mode : HasCleanDisk new → IsTrue old.in_transaction → OnRead result (IsTrue new.in_transaction)
  pub inside : HasCleanDisk new → IsInside old → OnRead result (StaysInside old new)
  pub within : IsWithin old new

-- the rows of a table, which were good, became what is made of them, and nothing else changed; or they are bad, and nothing changed; or want of memory or the store stopped the call
abbrev pub ChangesRows : {X V : Type 0} → Kept X → (List Row → List Row) → (List Row → Type 0) → (List Row → Type 0) → State → State → Result V TableFault → Type 0
ChangesRows k made AreGood AreBad old new result = ChangesTable k (Becomes (table_named k.name) made) AreGood AreBad old new result
