-- The tables that stand for a book at a point.
use Rattle.std.specs.Prelude.{◌≡◌, ◌⊎◌, true, Contains, List, IsPermutation}
use Rattle.sqlite.specs.Schema.{Schema}
use Rattle.sqlite.specs.Tree.{Trees}
use Rattle.sqlite.specs.State.{State}
use Rattle.sqlite_catalog.specs.Listing.{IsSound}
use Rattle.mx_book.specs.commands.Act.{Entry}
use Rattle.mx_book.specs.Book.{IsBook}
use Rattle.mx_base.specs.declared.point.Point.{Point}
use Rattle.mx_layout.specs.TableName.{TableName}
use Rattle.mx_layout.specs.Contents.{rows_in, Rises}
use Rattle.mx_layout.specs.Crash.{RestsAs}
use Rattle.mx_layout.specs.Names.{table_named}
use Rattle.mx_layout.specs.Point.{FitsPoint}
use Rattle.mx_book_tables.specs.stands.Family.{rows_of, rows_given, is_at, Fit}
use Rattle.mx_book_tables.specs.stands.Schemas.{schema_at}

-- ── rows, as sets ──

-- each table at the point has exactly the rows that this book gives it there, and each of these can be kept in its columns
pub record HasRowsAt (at : Point) (trees : Trees) (book : List Entry) : Type 0 where
  pub is_book : IsBook book
  pub point : FitsPoint at
  pub fit : (name : TableName) → is_at at name ≡ true → Fit (rows_of name) at book
  pub tables : (name : TableName) → is_at at name ≡ true → IsPermutation (rows_given at book name) (rows_in (table_named name) trees)

-- ── what is not of rows ──

-- the trees are the tables and indexes of this schema and no others, and the rowids of each table rise: what the rows as sets don't say, and what an opening, which reads the point alone, doesn't look at; it holds of new tables, and each call keeps it
pub record LiesInSchema (schema : Schema) (trees : Trees) : Type 0 where
  pub sound : IsSound schema trees
  pub rises : (name : TableName) → Contains schema.tables (table_named name) → Rises (table_named name) trees

-- so of the schema of a file at this point
abbrev pub LiesAt : Point → Trees → Type 0
LiesAt at = LiesInSchema (schema_at at)

-- ── both ──

-- the trees are the tables of this schema, among which those of a file at this point stand for this book
pub record StandsInSchema (schema : Schema) (at : Point) (trees : Trees) (book : List Entry) : Type 0 where
  pub lies : LiesInSchema schema trees
  pub rows : HasRowsAt at trees book

-- the trees are the tables of a file at this point and no others, and stand for this book
abbrev pub StandsAt : Point → Trees → List Entry → Type 0
StandsAt at = StandsInSchema (schema_at at) at

-- no transaction is open, and the tables, and each state of them that a crash may leave, stand for the book at this point, in this schema
abbrev pub RestsInSchema : Schema → Point → State → List Entry → Type 0
RestsInSchema schema at s book = RestsAs s schema (λ trees. StandsInSchema schema at trees book)

-- so in the schema of a file at this point
abbrev pub RestsAt : Point → State → List Entry → Type 0
RestsAt at = RestsInSchema (schema_at at) at

-- the tables stand for one of two books
abbrev pub IsEitherInSchema : Schema → Point → List Entry → List Entry → Trees → Type 0
IsEitherInSchema schema at one other trees = StandsInSchema schema at trees one ⊎ StandsInSchema schema at trees other

-- so in the schema of a file at this point
abbrev pub IsEither : Point → List Entry → List Entry → Trees → Type 0
IsEither at = IsEitherInSchema (schema_at at) at
