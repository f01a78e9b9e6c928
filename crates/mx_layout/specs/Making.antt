-- The tables of an empty book, and how they come to be made.
use Rattle.std.specs.Prelude.{◌≡◌, ◌≢◌, ℕ, false, List, [], ◌∷◌, Contains, codes}
use Rattle.std.specs.List.{AllByRecursion}
use Rattle.sqlite.specs.Schema.{Schema}
use Rattle.sqlite.specs.Tree.{Trees}
use Rattle.sqlite.specs.Effect.{Database}
use Rattle.sqlite_catalog.specs.Listing.{IsSound}
use Rattle.mx_base.specs.declared.point.Point.{Point}
use Rattle.mx_base.specs.Settled.{settled}
use Rattle.mx_layout.specs.Contents.{rows_in, Rises}
use Rattle.mx_layout.specs.Point.{point_cells}
use Rattle.mx_layout.specs.Steps.{schema_of}
use Rattle.mx_layout.specs.Names.{table_named}
use Rattle.mx_layout.specs.TableName.{TableName}
use Rattle.mx_layout.specs.declared.fault.Table.TheVariants as table
use Rattle.mx_layout.specs.Tables.{office}

-- the text that asks for a row of no table
abbrev pub ask_text : List ℕ
ask_text = codes "SELECT 1"

-- the database has the tables of this schema, none with AUTOINCREMENT, and none has a row
pub record IsBlank (schema : Schema) (db : Database) : Type 0 where
  pub schema_is : db.schema ≡ schema
  pub empty : AllByRecursion (λ t. db.trees t.tree ≡ []) schema.tables
  pub uncounted : AllByRecursion (λ t. t.is_counted ≡ false) schema.tables
  pub sound : IsSound schema db.trees

-- the tables of this schema with no entry, at this point: office has the row of the point, no other table has a row, and the rowids of each rise
pub record IsEmptyAt (schema : Schema) (at : Point) (trees : Trees) : Type 0 where
  pub sound : IsSound schema trees
  pub points : rows_in office trees ≡ point_cells at ∷ []
  pub others : (name : TableName) → Contains schema.tables (table_named name) → name ≢ table.Office → rows_in (table_named name) trees ≡ []
  pub rises : (name : TableName) → Contains schema.tables (table_named name) → Rises (table_named name) trees

-- the tables of a layout with no entry, at its settled point
abbrev pub IsEmptyIn : ℕ → Trees → Type 0
IsEmptyIn layout = IsEmptyAt (schema_of layout) (settled layout)
