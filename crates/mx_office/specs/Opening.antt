-- What becomes of a database whose office is opened, and why none is.
use Rattle.std.specs.Prelude.{◌≡◌, ◌≢◌, ◌⊎◌, ◌≤◌, ℕ, true, List, [], ◌∷◌, length, Option, Some, None, Result, Ok, Err, IsTrue}
use Rattle.sqlite.specs.Store.{Ghosts}
use Rattle.sqlite.specs.Held.{Held, state}
use Rattle.sqlite.specs.State.{State, HasCleanDisk}
use Rattle.sqlite.specs.Tree.{Trees}
use Rattle.sqlite_trees.specs.View.{doubt}
use Rattle.mx_book.specs.commands.Act.{Entry}
use Rattle.mx_layout.specs.declared.fault.TableFault.{TableFault}
use Rattle.mx_base.specs.declared.point.Point.{Point}
use Rattle.mx_registers.specs.points.Commits.{point_behind}
use Rattle.mx_registers.specs.points.Points.{is_on_way}
use Rattle.mx_layout.specs.Contents.{rows_in}
use Rattle.mx_layout.specs.Crash.{ChangesNothing, Leaves}
use Rattle.mx_layout.specs.Listed.{LacksOffice}
use Rattle.mx_layout.specs.Point.{point_cells, FitsPoint, HoldsPoint, TellsPoint}
use Rattle.mx_layout.specs.Tables.{office, HasOffice}
use Rattle.mx_book_tables.specs.stands.Schemas.{IsOfFile}
use Rattle.mx_book_tables.specs.stands.Stands.{RestsAt, StandsAt}
use Rattle.mx_migrate.specs.settle.Advances.{LeadsTo}
use Rattle.mx_migrate.specs.settle.Place.{IsOnWay, IsPlacedAt}
use Rattle.mx_faults.specs.declared.fault.OpenFault.{OpenFault}
use Rattle.mx_faults.specs.declared.fault.OpenFault.TheVariants as unopened
use Rattle.mx_office.specs.Faults.{open_answer, open_fault_from, IsReason, IsStop, IsStopped, IsUnopened, SaysWhy}
use Rattle.mx_office.specs.Layout.{office_point}
use Rattle.mx_office.specs.Stands.{Rests}

-- ── what becomes of a database ──

-- the tables stand for the book at a point, or at one behind it on the way to the newest layout
abbrev pub StandsBehind : Point → List Entry → Trees → Type 0
StandsBehind at book trees = (commits : ℕ) × StandsAt (point_behind commits at book) trees book

-- some steps of the move, one after another, make these trees of those of a file at this point
abbrev pub AreMovedOn : Point → Trees → Trees → Type 0
AreMovedOn at old new = (commits : ℕ) × (to : Point) × LeadsTo commits at old to new

-- what becomes of a file whose office was opened, or was not for this reason
pub record MovesOn (old new : State) (why : Option OpenFault) : Type 0 where
  -- what the disk failed in is not forgotten
  pub clean : doubt old.is_clean ≤ doubt new.is_clean
  -- where the tables stood for a book at any point: they stand for it at the point of the office, or, unless the store failed, at that point or at one behind it; and whatever is answered, a crash leaves them to stand for it at such a point
  pub kept : (at : Point) (book : List Entry) → RestsAt at old book → why ≡ None → Rests new book
  pub same : (at : Point) (book : List Entry) → RestsAt at old book → (fault : OpenFault) → why ≡ Some fault → fault ≢ unopened.Store → (commits : ℕ) × RestsAt (point_behind commits at book) new book
  pub crash : (at : Point) (book : List Entry) → RestsAt at old book → Leaves new (StandsBehind at book)
  -- whatever rows a file at a point has: it is at the point of the office
  pub placed : (at : Point) → IsPlacedAt at old → why ≡ None → IsPlacedAt office_point new
  -- and unless the store failed its tables are what steps of the move make of those from before; each state that a crash may leave is one from before, or what they make
  pub made : (at : Point) → IsPlacedAt at old → why ≢ Some unopened.Store → HasCleanDisk new → IsTrue new.is_open → IsTrue old.is_open × AreMovedOn at old.now.trees new.now.trees
  pub left : (at : Point) → IsPlacedAt at old → Leaves new (λ trees. old.may_leave trees ⊎ (IsTrue old.is_open × AreMovedOn at old.now.trees trees))

-- nothing changed, but where the query of `office` told a point on the way
abbrev pub ChangesOnWay : {S : Type 0} → Ghosts S → Held S → State → Type 0
ChangesOnWay g was now = ChangesNothing (state g was) now ⊎ (HasCleanDisk now → IsOnWay g was)

-- ── where an office is opened ──

-- the query of `office`, in whatever schema, told the point of the office, and nothing has changed since
abbrev pub IsThere : {S : Type 0} → Ghosts S → State → Type 0
IsThere {S} g now = (was : Held S) × TellsPoint g was (Ok office_point) × ChangesNothing (state g was) now

-- of a file that is at this point: it is that of the office, or memory or the store failed as it was read, or the file is at another point than that of the office
abbrev pub IsArrived : Point → Option OpenFault → Type 0
IsArrived at None = at ≡ office_point
IsArrived at (Some why) = IsStop why ⊎ (at ≢ office_point)

-- ── why ──

-- what is known of a database in which an office was opened: nothing of its other tables, each of which is looked at by the calls that need it
pub record WasOurs (was : State) : Type 0 where
  -- its table `office` has one row, that of a point that a file can be at
  pub file : (IsTrue was.is_open → HasOffice was.now.schema) → (p : Point) × IsOfFile p × (rows_in office was.now.trees ≡ point_cells p ∷ [])
  -- at no other point is one opened
  pub exact : (p : Point) → (IsTrue was.is_open → HoldsPoint p was.now) → FitsPoint p → open_answer p ≡ None
  -- nor where no table is named `office`
  pub found : (IsTrue was.is_open → LacksOffice was.now.schema) → ⊥

-- why no office was opened, where the point was read so
abbrev pub IsWhy : Result Point TableFault → OpenFault → Type 0
IsWhy (Ok p) why = (open_answer p ≡ Some why) ⊎ ((is_on_way p ≡ true) × IsStopped why)
IsWhy (Err fault) why = why ≡ open_fault_from fault

-- the query of `office`, in whatever schema, says whether an office is opened: it showed the row of a point that a file can be at and no other, or it says why none is
abbrev pub SaysPoint : {S : Type 0} → Ghosts S → Held S → Option OpenFault → Type 0
SaysPoint g was None = (p : Point) × TellsPoint g was (Ok p) × IsOfFile p
SaysPoint g was (Some why) = (answer : Result Point TableFault) × TellsPoint g was answer × IsWhy answer why

-- why no office was opened in a database
pub record HasReason (was : State) (why : OpenFault) : Type 0 where
  -- it is at a point that says so, or the move from there met a table that is damaged
  pub exact : (p : Point) → (IsTrue was.is_open → HoldsPoint p was.now) → FitsPoint p → SaysWhy p why ⊎ IsStop why
  -- the rows of its table `office` say so
  pub reason : (IsTrue was.is_open → HasOffice was.now.schema) → IsReason (rows_in office was.now.trees) why
  -- it is told that the database is not ours only where that table has not one row
  pub not_ours : (IsTrue was.is_open → HasOffice was.now.schema) → why ≡ unopened.NotOurs → length (rows_in office was.now.trees) ≢ 1
  -- no table is named `office`
  pub absent : (IsTrue was.is_open → LacksOffice was.now.schema) → IsUnopened (Some unopened.NotOurs) why
  -- of a book, where a file can be at the point at which the tables stood for it, memory or the store alone
  pub whole : (at : Point) (book : List Entry) → IsOfFile at → RestsAt at was book → IsStop why
