-- What statements make of the rows of each table, as one function of its name.
use Rattle.std.specs.Prelude.{Bool, not, List, [], ◌∷◌, filter, nat_eq, if◌then◌else◌, Contains, IsTrue, Result, OnOk}
use Rattle.sqlite.specs.Order.{Row}
use Rattle.sqlite.specs.Schema.{Schema}
use Rattle.sqlite.specs.Effect.{Database}
use Rattle.sqlite.specs.State.{State, HasCleanDisk}
use Rattle.mx_layout.specs.TableName.{TableName}
use Rattle.mx_layout.specs.declared.fault.TableFault.{TableFault}
use Rattle.mx_layout.specs.Contents.{Rises}
use Rattle.mx_layout.specs.Crash.{StaysInside, IsWithin}
use Rattle.mx_layout.specs.Names.{table_named}
use Rattle.mx_layout.specs.kept.Kept.{Kept}
use Rattle.mx_layout.specs.kept.Family.{on_top}
use Rattle.mx_tables.specs.inserts.Sets.{GainsRows, IsInside}

-- ── what becomes of the rows of a table ──

-- the rows without those that are chosen, where these are of the same table
abbrev pub less : {X : Type 0} → Kept X → (Row → Bool) → TableName → List Row → List Row
less k chosen name rows = if nat_eq (table_named k.name).tree (table_named name).tree then filter (λ row. not (chosen row)) rows else rows

-- the one row in place of those that are chosen, where these are of the same table
abbrev pub in_place : {X : Type 0} → Kept X → (Row → Bool) → X → TableName → List Row → List Row
in_place k chosen x name rows = on_top k (x ∷ []) name (less k chosen name rows)

-- each of these rows in place of those that it is to replace, one after another
abbrev pub all_in_place : {X : Type 0} → Kept X → (X → Row → Bool) → List X → TableName → List Row → List Row
all_in_place k replaced [] name rows = rows
all_in_place k replaced (x ∷ xs) name rows = all_in_place k replaced xs name (in_place k (replaced x) x name rows)

-- ── calls ──

-- the rowids of each table of the database rise, as in each file
abbrev pub AllRise : Database → Type 0
AllRise db = (name : TableName) → Contains db.schema.tables (table_named name) → Rises (table_named name) db.trees

-- rows were written, in a schema that has their tables, and each table has what is made of the rows that it had; or the call stopped
pub record WritesRows {V : Type 0} (IsIn : Schema → Type 0) (onto : TableName → List Row → List Row) (old new : State) (result : Result V TableFault) : Type 0 where
  pub gains : HasCleanDisk new → IsInside old → IsIn old.now.schema → AllRise old.now → OnOk result (GainsRows onto old.now new.now)
  pub mode : HasCleanDisk new → IsTrue old.in_transaction → OnOk result (IsTrue new.in_transaction)
  pub inside : HasCleanDisk new → IsInside old → OnOk result (StaysInside old new)
  pub within : IsWithin old new
