-- What reading and writing several tables does to a connection.
-- A table that is told damaged is one of those that are read (`there` of `ReadsTables`): by the names of all tables of
-- all layouts a reader of layout 1 could tell one that its file does not have.
use Rattle.std.specs.Prelude.{◌≡◌, ◌⊎◌, List, map, All, Contains, IsPermutation, Result, OnOk, IfOk, IfErr, IsTrue}
use Rattle.sqlite.specs.Order.{Row}
use Rattle.sqlite.specs.Schema.{Schema}
use Rattle.sqlite.specs.Tree.{Trees}
use Rattle.sqlite.specs.Effect.{Database, IsDatabase}
use Rattle.sqlite.specs.State.{State, HasCleanDisk, IsUnchanged}
use Rattle.mx_layout.specs.TableName.{TableName}
use Rattle.mx_layout.specs.declared.fault.TableFault.{TableFault}
use Rattle.mx_layout.specs.declared.fault.TableFault.TheVariants.{Memory, Store, Damaged}
use Rattle.mx_layout.specs.Contents.{rows_in, Rises}
use Rattle.mx_layout.specs.Crash.{StaysInside, IsWithin}
use Rattle.mx_layout.specs.Names.{table_named}
use Rattle.mx_layout.specs.Reading.{AreAllBy, HasOther}
use Rattle.mx_layout.specs.kept.Kept.{Kept}
use Rattle.mx_layout.specs.kept.Family.{IsReadable}
use Rattle.mx_tables.specs.Calls.{OnRead}

-- some row of the table is none of its type
abbrev pub IsDamaged : Trees → TableName → Type 0
IsDamaged trees name = HasOther (IsReadable name) (rows_in (table_named name) trees)

-- exactly the rows of the table, in its order, and each can be kept in its columns
abbrev pub AreRowsOf : {X : Type 0} → Kept X → Trees → List X → Type 0
AreRowsOf k trees xs = AreAllBy k.order (table_named k.name) trees (map k.as_cells xs) × All k.Fits xs

-- some tables were read, or a row of one of them is none of its type, and nothing changed; or the call stopped
pub record ReadsTables {V : Type 0} (IsIn : Schema → Type 0) (AreRows : Trees → V → Type 0) (old new : State) (result : Result V TableFault) : Type 0 where
  pub rows : HasCleanDisk new → IsIn old.now.schema → IfOk result (AreRows old.now.trees)
  pub cause : IfErr result (λ e. (e ≡ Memory) ⊎ ((e ≡ Store) ⊎ ((name : TableName) × (e ≡ Damaged name))))
  pub damaged : HasCleanDisk new → IsIn old.now.schema → (name : TableName) → IfErr result (λ e. e ≡ Damaged name → IsDamaged old.now.trees name)
  pub there : (schema : Schema) → IsIn schema → (name : TableName) → IfErr result (λ e. e ≡ Damaged name → Contains schema.tables (table_named name))
  pub unchanged : HasCleanDisk new → IsIn old.now.schema → OnRead result (IsUnchanged old new)
  pub inside : HasCleanDisk new → IsTrue old.in_transaction → OnRead result (StaysInside old new)
  pub within : IsWithin old new

-- each table of the schema has what is on top of its rows from before, and its rowids rise if they rose
pub record GainsRows (onto : TableName → List Row → List Row) (old new : Database) : Type 0 where
  pub schema : new.schema ≡ old.schema
  pub sound : IsDatabase old → IsDatabase new
  pub tables : (name : TableName) → Contains old.schema.tables (table_named name) → IsPermutation (onto name (rows_in (table_named name) old.trees)) (rows_in (table_named name) new.trees)
  pub rises : (name : TableName) → Contains old.schema.tables (table_named name) → Rises (table_named name) old.trees → Rises (table_named name) new.trees

-- a transaction is open, and so is the connection
abbrev pub IsInside : State → Type 0
IsInside s = IsTrue s.in_transaction × IsTrue s.is_open

-- some tables gained rows; or the call stopped
pub record WritesTables {V : Type 0} (IsIn : Schema → Type 0) (onto : TableName → List Row → List Row) (old new : State) (result : Result V TableFault) : Type 0 where
  pub gains : HasCleanDisk new → IsInside old → IsIn old.now.schema → OnOk result (GainsRows onto old.now new.now)
  pub mode : HasCleanDisk new → IsTrue old.in_transaction → OnOk result (IsTrue new.in_transaction)
  pub inside : HasCleanDisk new → IsInside old → OnOk result (StaysInside old new)
  pub within : IsWithin old new
