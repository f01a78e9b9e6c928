-- What a step makes of the rows of every table.
use Rattle.std.specs.Prelude.{◌≡◌, true, List, IsPermutation}
use Rattle.sqlite.specs.Order.{Row}
use Rattle.sqlite.specs.Tree.{Trees}
use Rattle.mx_base.specs.declared.point.Point.{Point}
use Rattle.mx_layout.specs.TableName.{TableName}
use Rattle.mx_layout.specs.Contents.{rows_in}
use Rattle.mx_layout.specs.Names.{table_named}
use Rattle.mx_book_tables.specs.stands.Family.{is_at}
use Rattle.mx_book_tables.specs.stands.Stands.{LiesAt}

-- the trees are the tables of a file at this point, and each has what is made of the rows that the table of its name had before
pub record MakesRows (onto : TableName → List Row → List Row) (to : Point) (old new : Trees) : Type 0 where
  pub lies : LiesAt to new
  pub tables : (name : TableName) → is_at to name ≡ true → IsPermutation (onto name (rows_in (table_named name) old)) (rows_in (table_named name) new)
