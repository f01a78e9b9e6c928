-- What a table holds, as a layer above speaks of it: lists of rows, and no SQL.
use Rattle.std.specs.Prelude.{◌≡◌, ◌≢◌, List, [], ◌∷◌, map, length, IsPermutation, IsTrue}
use Rattle.std.specs.List.{range_with_len, AllByRecursion}
use Rattle.sqlite.specs.Order.{Row, column}
use Rattle.sqlite.specs.Table.{Table}
use Rattle.sqlite.specs.Schema.{Schema}
use Rattle.sqlite.specs.Tree.{Trees, rowid, IsTable}
use Rattle.sqlite.specs.View.{is_int}
use Rattle.sqlite_schema.specs.Names.{place_of}

-- the values of a row, in the order of the columns
abbrev pub cells : Table → Row → Row
cells table row = map (λ at. column row (place_of table at)) (range_with_len 0 (length table.columns))

-- the rows of a table, in the order of their rowids
abbrev pub rows_in : Table → Trees → List Row
rows_in table trees = map (cells table) (trees table.tree)

-- the rowids of the table rise, as in each table of a file
pub record Rises (table : Table) (trees : Trees) : Type 0 where
  pub up : IsTable (trees table.tree)
  pub numbers : AllByRecursion (λ r. IsTrue (is_int (rowid r))) (trees table.tree)

-- no table of the schema refers to another
abbrev pub HasNoReferences : Schema → Type 0
HasNoReferences schema = AllByRecursion (λ t. t.references ≡ []) schema.tables

-- the table gained the one row, and each other table of the schema is as it was
pub record Adds (tables : List Table) (table : Table) (row : Row) (old new : Trees) : Type 0 where
  pub gained : IsPermutation (row ∷ rows_in table old) (rows_in table new)
  pub others : AllByRecursion (λ t. t.tree ≢ table.tree → new t.tree ≡ old t.tree) tables
  pub rises : Rises table old → Rises table new
