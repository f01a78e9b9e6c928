-- The schema that a file has at the newest layout, where somebody may have made tables and indexes beside those of the program.
-- The sentence keeps it through a stop: a file that is found has it still. One on the way there has the tables of the
-- program alone, since of no other it is known what a step makes.
use Rattle.std.specs.Prelude.{◌≡◌, ◌⊎◌, List}
use Rattle.sqlite.specs.Schema.{Schema}
use Rattle.sqlite.specs.State.{State}
use Rattle.sqlite.specs.Tree.{Trees}
use Rattle.mx_base.specs.declared.point.Point.{Point}
use Rattle.mx_book.specs.commands.Act.{Entry}
use Rattle.mx_book_tables.specs.stands.Schemas.{schema_at}
use Rattle.mx_book_tables.specs.stands.Stands.{RestsInSchema, StandsInSchema}
use Rattle.mx_apply.specs.writing.Written.{IsSettled}
use Rattle.mx_office.specs.Layout.{office_point, office_schema}

-- a file that has its own schema at the point of the office has this one at that point: that of the program there, where it has no other tables; or it is at the point of the office
abbrev pub IsSchemaOf : Schema → Point → Schema → Type 0
IsSchemaOf own at schema = ((own ≡ office_schema) × (schema ≡ schema_at at)) ⊎ (IsSettled own × (at ≡ office_point) × (schema ≡ own))

-- the trees are the tables of such a file at this point, and stand for this book
pub record StandsOn (own : Schema) (at : Point) (trees : Trees) (book : List Entry) : Type 0 where
  pub schema : Schema
  pub is : IsSchemaOf own at schema
  pub tables : StandsInSchema schema at trees book

-- no transaction is open, and the tables, and each state of them that a crash may leave, do so
pub record RestsOn (own : Schema) (at : Point) (s : State) (book : List Entry) : Type 0 where
  pub schema : Schema
  pub is : IsSchemaOf own at schema
  pub tables : RestsInSchema schema at s book

-- the trees are the tables of such a file at the point of the office, and stand for this book
abbrev pub StandsHere : Schema → List Entry → Trees → Type 0
StandsHere own book trees = StandsInSchema own office_point trees book
