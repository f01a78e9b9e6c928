-- What statements make of the rows of each table, as one function of its name.
-- A statement names the schema before it and the one behind it, as the places of the layouts' own statements have them
-- (`schema_after`), and what each table has then (`Alters`). Statements that write rows run in any schema that has
-- their tables (`WritesRows`), and become an `Alters` of one schema to itself. So the statements of a step compose by
-- one lemma, whether they make tables or rows.
use Rattle.std.specs.Prelude.{◌≡◌, Bool, not, List, [], ◌∷◌, filter, nat_eq, if◌then◌else◌, Contains, IsPermutation, IsTrue, Result, OnOk}
use Rattle.sqlite.specs.Order.{Row}
use Rattle.sqlite.specs.Schema.{Schema}
use Rattle.sqlite.specs.Tree.{Trees}
use Rattle.sqlite.specs.Effect.{Database, IsDatabase}
use Rattle.sqlite.specs.State.{State, HasCleanDisk}
use Rattle.mx_layout.specs.TableName.{TableName}
use Rattle.mx_layout.specs.declared.fault.TableFault.{TableFault}
use Rattle.mx_layout.specs.Contents.{rows_in, Rises}
use Rattle.mx_layout.specs.Crash.{StaysInside, IsWithin}
use Rattle.mx_layout.specs.Names.{table_named}
use Rattle.mx_layout.specs.kept.Kept.{Kept}
use Rattle.mx_layout.specs.kept.Family.{on_top}
use Rattle.mx_tables.specs.inserts.Sets.{GainsRows, IsInside}

-- ── what becomes of the rows of a table ──

-- the rows without those that are chosen, where these are of the same table
abbrev pub less : {X : Type 0} → Kept X → (Row → Bool) → TableName → List Row → List Row
less k chosen name rows = if nat_eq (table_named k.name).tree (table_named name).tree then filter (λ row. not (chosen row)) rows else rows

-- the one row in place of those that are chosen, where these are of the same table
abbrev pub in_place : {X : Type 0} → Kept X → (Row → Bool) → X → TableName → List Row → List Row
in_place k chosen x name rows = on_top k (x ∷ []) name (less k chosen name rows)

-- no row, in the table with this name
abbrev pub emptied : TableName → TableName → List Row → List Row
emptied new name rows = if nat_eq (table_named new).tree (table_named name).tree then [] else rows

-- the rows as they are
abbrev pub unchanged : TableName → List Row → List Row
unchanged name rows = rows

-- ── what becomes of all tables ──

-- the rowids of each table of the schema rise, as in each file
abbrev pub AllRise : Schema → Trees → Type 0
AllRise schema trees = (name : TableName) → Contains schema.tables (table_named name) → Rises (table_named name) trees

-- the database has this schema now, and each of its tables what is made of the rows that it had
pub record Reaches (to : Schema) (onto : TableName → List Row → List Row) (old new : Database) : Type 0 where
  pub schema : new.schema ≡ to
  pub sound : IsDatabase old → IsDatabase new
  pub tables : (name : TableName) → Contains to.tables (table_named name) → IsPermutation (onto name (rows_in (table_named name) old.trees)) (rows_in (table_named name) new.trees)
  pub rises : AllRise old.schema old.trees → AllRise to new.trees

-- ── calls ──

-- a call inside a transaction that answers found the connection open
abbrev pub WasOpen : {V : Type 0} → State → State → Result V TableFault → Type 0
WasOpen old new result = HasCleanDisk new → IsTrue old.in_transaction → OnOk result (IsTrue old.is_open)

-- rows were written, in a schema that has their tables, and each table has what is made of the rows that it had; or the call stopped
pub record WritesRows {V : Type 0} (IsIn : Schema → Type 0) (onto : TableName → List Row → List Row) (old new : State) (result : Result V TableFault) : Type 0 where
  pub gains : HasCleanDisk new → IsInside old → IsIn old.now.schema → AllRise old.now.schema old.now.trees → OnOk result (GainsRows onto old.now new.now)
  pub mode : HasCleanDisk new → IsTrue old.in_transaction → OnOk result (IsTrue new.in_transaction)
  pub inside : HasCleanDisk new → IsInside old → OnOk result (StaysInside old new)
  pub within : IsWithin old new

-- the tables went from one schema to another, and each table of the new one has what is made of the rows that it had; or the call stopped
pub record Alters {V : Type 0} (from to : Schema) (onto : TableName → List Row → List Row) (old new : State) (result : Result V TableFault) : Type 0 where
  pub reaches : HasCleanDisk new → IsInside old → old.now.schema ≡ from → AllRise from old.now.trees → OnOk result (Reaches to onto old.now new.now)
  pub mode : HasCleanDisk new → IsTrue old.in_transaction → OnOk result (IsTrue new.in_transaction)
  pub inside : HasCleanDisk new → IsInside old → OnOk result (StaysInside old new)
  pub within : IsWithin old new
