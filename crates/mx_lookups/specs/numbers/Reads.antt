-- What look-ups inside a transaction answer, and what they leave.
use Rattle.std.specs.Prelude.{◌≡◌, ◌⊎◌, List, Result, Err, IsTrue, IfOk, IfErr}
use Rattle.sqlite.specs.Schema.{Schema}
use Rattle.sqlite.specs.State.{State, HasCleanDisk}
use Rattle.mx_book.specs.commands.Act.{Entry}
use Rattle.mx_base.specs.declared.point.Point.{Point}
use Rattle.mx_base.specs.Settled.{settled}
use Rattle.mx_registers.specs.declared.points.points.TheConstants.{NEWEST_LAYOUT}
use Rattle.mx_layout.specs.TableName.{TableName}
use Rattle.mx_layout.specs.declared.fault.TableFault.{TableFault}
use Rattle.mx_layout.specs.declared.fault.TableFault.TheVariants.{Memory, Store, Damaged}
use Rattle.mx_layout.specs.Crash.{StaysInside, IsWithin}
use Rattle.mx_tables.specs.Calls.{OnRead}
use Rattle.mx_book_tables.specs.stands.Schemas.{HasTablesAt}
use Rattle.mx_book_tables.specs.stands.Stands.{HasRowsAt}
use Rattle.mx_lookups.specs.numbers.Damage.{IsDamaged}

-- the point at which rows are looked up
abbrev pub rows_point : Point
rows_point = settled NEWEST_LAYOUT

-- the point of the layout behind it, at which no file is yet
abbrev pub later_point : Point
later_point = settled 3

-- rows can be looked up at this point: at either
abbrev pub IsRowsPoint : Point → Type 0
IsRowsPoint at = (at ≡ rows_point) ⊎ (at ≡ later_point)

-- the schema has the tables that a file has at the point, and behind them whatever tables and indexes
unfoldable pub HasTablesOfRowsAt : Point → Schema → Type 0
HasTablesOfRowsAt at schema = HasTablesAt at schema

-- so at the point at which rows are looked up
abbrev pub HasTablesOfRows : Schema → Type 0
HasTablesOfRows = HasTablesOfRowsAt rows_point

-- a transaction is at the point, and its tables have the rows of the book
pub record StandsForAt (at : Point) (s : State) (book : List Entry) : Type 0 where
  pub schema : HasTablesOfRowsAt at s.now.schema
  pub rows : HasRowsAt at s.now.trees book

-- so at the point at which rows are looked up
abbrev pub StandsFor : State → List Entry → Type 0
StandsFor = StandsForAt rows_point

-- want of memory, the store, or a table that is damaged
abbrev pub IsStop : TableFault → Type 0
IsStop e = (e ≡ Memory) ⊎ ((e ≡ Store) ⊎ ((name : TableName) × (e ≡ Damaged name)))

-- Rows were looked up inside a transaction at a point, from one state to the next. What is answered is so of the book that the tables stand for, and where they stand for one no table is damaged; over any rows a table is told damaged only where it is; nothing changed; or want of memory or the store stopped the call.
pub record ReadsAt {V : Type 0} (at : Point) (Is : List Entry → V → Type 0) (old new : State) (result : Result V TableFault) : Type 0 where
  pub read : HasCleanDisk new → (book : List Entry) → StandsForAt at old book → IfOk result (Is book)
  pub cause : IfErr result IsStop
  pub no_book : HasCleanDisk new → (name : TableName) → result ≡ Err (Damaged name) → (book : List Entry) → StandsForAt at old book → ⊥
  pub damaged : HasCleanDisk new → HasTablesOfRowsAt at old.now.schema → (name : TableName) → result ≡ Err (Damaged name) → IsDamaged name old.now.trees
  pub unchanged : HasCleanDisk new → HasTablesOfRowsAt at old.now.schema → OnRead result (new.now ≡ old.now)
  pub inside : HasCleanDisk new → IsTrue old.in_transaction → OnRead result (StaysInside old new)
  pub within : IsWithin old new

-- so at the point at which rows are looked up
abbrev pub Reads : {V : Type 0} → (List Entry → V → Type 0) → State → State → Result V TableFault → Type 0
Reads = ReadsAt rows_point
