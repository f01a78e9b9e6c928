-- What the rows of entries make of the tables of layout 1.
use Rattle.std.specs.Prelude.{◌≡◌, List, ◌++◌, IsTrue, Result, OnOk}
use Rattle.sqlite.specs.Order.{Row}
use Rattle.sqlite.specs.State.{State, HasCleanDisk}
use Rattle.mx_book.specs.commands.Act.{Entry}
use Rattle.mx_base.specs.declared.point.Point.{Point}
use Rattle.mx_base.specs.Settled.{settled}
use Rattle.mx_layout.specs.TableName.{TableName}
use Rattle.mx_layout.specs.declared.fault.TableFault.{TableFault}
use Rattle.mx_layout.specs.Crash.{StaysInside, IsWithin}
use Rattle.mx_book_tables.specs.stands.Family.{FitBrought, added, rows_of}
use Rattle.mx_book_tables.specs.stands.Schemas.{schema_at}
use Rattle.mx_book_tables.specs.stands.Stands.{StandsAt}
use Rattle.mx_tables.specs.inserts.Sets.{IsInside}

-- the point of the files that are made: settled at layout 1
abbrev pub first_point : Point
first_point = settled 1

-- the rows of a command, behind the entries before it, can be kept in their columns
abbrev pub FitsNext : List Entry → Entry → Type 0
FitsNext before command = (name : TableName) → FitBrought (rows_of name) first_point before command

-- the rows of a command, behind the entries before it, on top of those that a table has
abbrev pub with_command : List Entry → Entry → TableName → List Row → List Row
with_command before command name rows = added first_point name before command ++ rows

-- rows were written inside a transaction: where the tables stood for the one book they stand for the other; or the call stopped
pub record AddsEntries {V : Type 0} (before after : List Entry) (old new : State) (result : Result V TableFault) : Type 0 where
  pub stands : HasCleanDisk new → IsInside old → old.now.schema ≡ schema_at first_point → StandsAt first_point old.now.trees before
      → OnOk result ((new.now.schema ≡ schema_at first_point) × StandsAt first_point new.now.trees after)
  pub mode : HasCleanDisk new → IsTrue old.in_transaction → OnOk result (IsTrue new.in_transaction)
  pub inside : HasCleanDisk new → IsInside old → OnOk result (StaysInside old new)
  pub within : IsWithin old new
