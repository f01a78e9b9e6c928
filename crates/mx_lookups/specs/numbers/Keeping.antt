-- The rows that a table keeps, in the order in which a book gives them.
use Rattle.std.specs.Prelude.{ℕ, List, map, All, IsPermutation}
use Rattle.sqlite.specs.Tree.{Trees}
use Rattle.mx_base.specs.rows.Rising.{IsRising}
use Rattle.mx_layout.specs.Contents.{rows_in}
use Rattle.mx_layout.specs.Names.{table_named}
use Rattle.mx_layout.specs.kept.Kept.{Kept}

-- the table has exactly these rows, in whatever order, each can be kept in its columns, and as listed here they rise by their key
pub record KeepsRows {X : Type 0} (k : Kept X) (trees : Trees) (rows : List X) : Type 0 where
  pub low : ℕ
  pub high : ℕ
  pub rise : IsRising k.key low rows high
  pub fit : All k.Fits rows
  pub given : IsPermutation (map k.as_cells rows) (rows_in (table_named k.name) trees)
