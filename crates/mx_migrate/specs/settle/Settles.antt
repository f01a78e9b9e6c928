-- What some commits of a file do on its way to the newest layout, one after another.
-- Of rows of no book a move can't be said to keep the book. So it is said by its steps: the tables behind it are what
-- some of them make of those from before, whether it came to its end or was stopped, and each state that a crash may
-- leave is one from before or made so too. A step says of every table what it makes of it, so a row that no step takes
-- can't go; it is one that the tables call for, so none is passed over, and what it writes of an item is what the
-- registers give; and where a table stops it, that is told.
use Rattle.std.specs.Prelude.{◌≡◌, ◌≢◌, ◌⊎◌, ◌<◌, ◌≤◌, ℕ, List, Result, Err, IsTrue, OnOk, IfOk, IfErr}
use Rattle.sqlite.specs.State.{State, HasCleanDisk}
use Rattle.sqlite.specs.Tree.{Trees}
use Rattle.sqlite_trees.specs.View.{doubt}
use Rattle.mx_book.specs.commands.Act.{Entry}
use Rattle.mx_base.specs.declared.point.Point.{Point}
use Rattle.mx_base.specs.Settled.{settled}
use Rattle.mx_registers.specs.points.Commits.{point_behind}
use Rattle.mx_layout.specs.TableName.{TableName}
use Rattle.mx_layout.specs.Crash.{Leaves}
use Rattle.mx_book_tables.specs.stands.Schemas.{IsOfFile}
use Rattle.mx_book_tables.specs.stands.Stands.{StandsAt, RestsAt}
use Rattle.mx_faults.specs.declared.moving.MoveFault.{MoveFault}
use Rattle.mx_faults.specs.declared.moving.MoveFault.TheVariants.{Store, Damaged}
use Rattle.mx_migrate.specs.settle.Advances.{AreMoved, LeadsTo, Stops}
use Rattle.mx_migrate.specs.settle.Place.{IsMoveStop, IsPlacedAt}
use Rattle.mx_registers.specs.declared.points.points.TheConstants.{NEWEST_LAYOUT}
use Rattle.mx_migrate.specs.declared.settle.settling.TheConstants.{ENOUGH_COMMITS}

-- fewer commits than so many lead from these tables to those that a file has now, and there the table with this name stops it
abbrev pub StopsBehind : ℕ → Point → TableName → Trees → State → Type 0
StopsBehind at_most at name old new = (commits : ℕ) × (commits < at_most) × (mid : Point) × (between : Trees) × LeadsTo commits at old mid between × Stops mid name between × (IsTrue new.is_open → new.now.trees ≡ between)

-- A file went on by so many commits, fewer only at the newest layout, and the point that it is at is answered; or a fault stopped it behind some of them.
pub record Settles (at_most : ℕ) (old new : State) (result : Result Point MoveFault) : Type 0 where
  pub clean : doubt old.is_clean ≤ doubt new.is_clean
  -- where the tables stood for a book at a point: they stand for it at the point behind so many commits, or where another fault than that of the store stopped it behind fewer; where a file can be at the first point, no table is damaged; and whatever is answered, a crash leaves them to stand for it behind some of the commits
  pub reached : (at : Point) (book : List Entry) → RestsAt at old book → HasCleanDisk new → IfOk result (λ to. to ≡ point_behind at_most at book)
  pub kept : (at : Point) (book : List Entry) → RestsAt at old book → OnOk result (RestsAt (point_behind at_most at book) new book)
  pub same : (at : Point) (book : List Entry) → RestsAt at old book → IfErr result (λ e. e ≢ Store → (commits : ℕ) × (commits ≤ at_most) × RestsAt (point_behind commits at book) new book)
  pub whole : (at : Point) (book : List Entry) → IsOfFile at → RestsAt at old book → HasCleanDisk new → IfErr result IsMoveStop
  pub crash : (at : Point) (book : List Entry) → RestsAt at old book → Leaves new (λ trees. (commits : ℕ) × (commits ≤ at_most) × StandsAt (point_behind commits at book) trees book)
  -- over any rows: the file is at the point that is answered, and with enough commits that is the newest layout
  pub placed : (at : Point) → IsPlacedAt at old → IfOk result (λ to. IsPlacedAt to new)
  -- and unless the store failed its tables are what at most so many steps of the move, one after another, make of those from before; each state that a crash may leave is one from before, or what they make
  pub made : (at : Point) → IsPlacedAt at old → result ≢ Err Store → HasCleanDisk new → IsTrue new.is_open → IsTrue old.is_open × AreMoved at_most at old.now.trees new.now.trees
  pub left : (at : Point) → IsPlacedAt at old → Leaves new (λ trees. old.may_leave trees ⊎ (IsTrue old.is_open × AreMoved at_most at old.now.trees trees))
  -- they lead to the point that is answered, and are so many, or that is the newest layout; a table that is told stops them
  pub counted : (at : Point) → IsPlacedAt at old → HasCleanDisk new → IsTrue new.is_open → IfOk result (λ to. IsTrue old.is_open × ((commits : ℕ) × (commits ≤ at_most) × LeadsTo commits at old.now.trees to new.now.trees × ((commits ≡ at_most) ⊎ (to ≡ settled NEWEST_LAYOUT))))
  pub damaged : (at : Point) → IsOfFile at → IsPlacedAt at old → HasCleanDisk new → IfErr result (λ e. (name : TableName) → e ≡ Damaged name → IsTrue old.is_open × StopsBehind at_most at name old.now.trees new)
  pub ends : (at : Point) → IsPlacedAt at old → HasCleanDisk new → ENOUGH_COMMITS ≤ at_most → IfOk result (λ to. to ≡ settled NEWEST_LAYOUT)
