-- The tables that stand for a book, at the point at which the office keeps them.
-- An operator may have made tables and indexes there beside those of the program, as `ANALYZE` and `CREATE INDEX` do.
-- What a call of an open office does to a book is said in each such schema in which no table refers to another, and it
-- keeps the schema.
use Rattle.std.specs.Prelude.{ℕ, List, Contains}
use Rattle.sqlite.specs.Schema.{Schema}
use Rattle.sqlite.specs.Tree.{Trees}
use Rattle.sqlite.specs.State.{State}
use Rattle.mx_book.specs.commands.Act.{Entry}
use Rattle.mx_book.specs.declared.verdict.Reply.{Reply}
use Rattle.mx_book.specs.declared.verdict.Reply.TheVariants.{Accepted}
use Rattle.mx_book_tables.specs.stands.Stands.{IsEither as IsEitherAt, IsEitherInSchema, RestsAt, RestsInSchema, StandsAt}
use Rattle.mx_office.specs.Layout.{office_point}

-- no transaction is open, and the tables of this schema, and each state of them that a crash may leave, stand for the book: those of the office among them
abbrev pub RestsIn : Schema → State → List Entry → Type 0
RestsIn schema = RestsInSchema schema office_point

-- the tables of this schema stand for one of two books
abbrev pub IsEitherIn : Schema → List Entry → List Entry → Trees → Type 0
IsEitherIn schema = IsEitherInSchema schema office_point

-- the trees are the tables of the office and no others, and stand for this book
abbrev pub Stands : Trees → List Entry → Type 0
Stands = StandsAt office_point

-- no transaction is open, and they, and each state of them that a crash may leave, stand for the book
abbrev pub Rests : State → List Entry → Type 0
Rests = RestsAt office_point

-- they stand for one of two books
abbrev pub IsEither : List Entry → List Entry → Trees → Type 0
IsEither = IsEitherAt office_point

-- no command was accepted
abbrev pub NoneAccepted : List Reply → Type 0
NoneAccepted said = (seq : ℕ) → Contains said (Accepted seq) → ⊥
