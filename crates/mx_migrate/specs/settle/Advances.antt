-- What one commit of a file does on its way to the newest layout.
use Rattle.std.specs.Prelude.{◌≡◌, ◌≢◌, ◌⊎◌, ◌≤◌, ℕ, zero, suc, List, Result, IsTrue, OnOk, IfOk, IfErr}
use Rattle.sqlite.specs.Tree.{Trees}
use Rattle.sqlite.specs.State.{State, HasCleanDisk}
use Rattle.sqlite_trees.specs.View.{doubt}
use Rattle.mx_book.specs.commands.Act.{Entry}
use Rattle.mx_base.specs.declared.point.Point.{Point}
use Rattle.mx_base.specs.Settled.{settled}
use Rattle.mx_registers.specs.points.Points.{next_point}
use Rattle.mx_layout.specs.TableName.{TableName}
use Rattle.mx_layout.specs.Crash.{Leaves, ChangesNothing}
use Rattle.mx_book_tables.specs.stands.Schemas.{IsOfFile}
use Rattle.mx_book_tables.specs.stands.Stands.{StandsAt, RestsAt}
use Rattle.mx_faults.specs.declared.moving.MoveFault.{MoveFault}
use Rattle.mx_faults.specs.declared.moving.MoveFault.TheVariants.{Store, Damaged}
use Rattle.mx_migrate.specs.settle.Choices.{IsUnfit}
use Rattle.mx_migrate.specs.settle.Due.{IsCalledFor, IsFor, IsOffFor, MakesBy}
use Rattle.mx_migrate.specs.settle.Place.{IsBehind, IsMoveStop, IsPlacedAt}
use Rattle.mx_migrate.specs.declared.settle.due.Due.{Due}
use Rattle.mx_registers.specs.declared.points.points.TheConstants.{NEWEST_LAYOUT}

-- these trees are what a step of the move that those call for makes of them, from the one point to the other
abbrev pub IsStepTo : Point → Point → Trees → Trees → Type 0
IsStepTo at to old new = (step : Due) × IsFor step at × IsCalledFor step old × MakesBy step at to old new

-- so to some point
abbrev pub IsStepOf : Point → Trees → Trees → Type 0
IsStepOf at old new = (to : Point) × IsStepTo at to old new

-- so many commits of the move, one after another, each of a step that its tables call for, lead from the one point with these trees to the other with those
abbrev pub LeadsTo : ℕ → Point → Trees → Point → Trees → Type 0
LeadsTo zero at old to new = (to ≡ at) × (new ≡ old)
LeadsTo (suc commits) at old to new = (mid : Point) × (between : Trees) × LeadsTo commits at old mid between × IsStepTo mid to between new

-- the table with this name is why a file with these tables goes on no further: a row of it can't be read or has a number that no entry can have, the registers are those of no book, or the step that the tables call for can't be made
abbrev pub Stops : Point → TableName → Trees → Type 0
Stops at name trees = IsUnfit name trees ⊎ ((step : Due) × IsFor step at × IsCalledFor step trees × IsOffFor step at name trees)

-- at most so many commits of the move make these trees of those
abbrev pub AreMoved : ℕ → Point → Trees → Trees → Type 0
AreMoved at_most at old new = (commits : ℕ) × (commits ≤ at_most) × (to : Point) × LeadsTo commits at old to new

-- A file went on by one commit, or it was at the newest layout, and none was made. Any answer but that of the store, where it is an error, changed nothing.
pub record Advances (old new : State) (result : Result Point MoveFault) : Type 0 where
  pub clean : doubt old.is_clean ≤ doubt new.is_clean
  pub untouched : IfErr result (λ e. e ≢ Store → ChangesNothing old new)
  -- over any rows: the file is at the point that is answered; below the newest layout that is a later one, and there nothing changed; a commit is made by a connection that was open, and is
  pub placed : (at : Point) → IsPlacedAt at old → IfOk result (λ to. IsPlacedAt to new)
  pub later : (at : Point) → IsPlacedAt at old → HasCleanDisk new → IfOk result (λ to. IsOfFile to × (((at ≡ settled NEWEST_LAYOUT) × (to ≡ at)) ⊎ IsBehind at to))
  pub opened : (at : Point) → IsPlacedAt at old → at ≢ settled NEWEST_LAYOUT → HasCleanDisk new → OnOk result (IsTrue old.is_open × IsTrue new.is_open)
  pub ended : IsPlacedAt (settled NEWEST_LAYOUT) old → HasCleanDisk new → OnOk result (ChangesNothing old new)

-- The same commit, of a file at this point: below the newest layout the tables are what a step that they call for makes of those from before; each state that a crash may leave is one from before, or what such a step makes of them; and damage is why no step can be chosen, or why that step can't be made.
pub record AdvancesRows (at : Point) (old new : State) (result : Result Point MoveFault) : Type 0 where
  pub made : at ≢ settled NEWEST_LAYOUT → HasCleanDisk new → IfOk result (λ to. IsStepTo at to old.now.trees new.now.trees)
  pub left : Leaves new (λ trees. old.may_leave trees ⊎ (IsTrue old.is_open × IsStepOf at old.now.trees trees))
  pub damaged : IsOfFile at → HasCleanDisk new → IfErr result (λ e. (name : TableName) → e ≡ Damaged name → IsTrue old.is_open × Stops at name old.now.trees)

-- The same commit, where the tables stood for this book at a point: they stand for it at the next point, which is answered, or at the newest layout at the same; where a file can be at that point, no table is damaged; and whatever is answered, a crash leaves them to stand for it at the one point or at the other.
pub record AdvancesBook (book : List Entry) (old new : State) (result : Result Point MoveFault) : Type 0 where
  pub moved : (at : Point) → RestsAt at old book → HasCleanDisk new → IfOk result (λ to. to ≡ next_point at book)
  pub kept : (at : Point) → RestsAt at old book → OnOk result (RestsAt (next_point at book) new book)
  pub same : (at : Point) → RestsAt at old book → IfErr result (λ e. e ≢ Store → RestsAt at new book)
  pub whole : (at : Point) → IsOfFile at → RestsAt at old book → HasCleanDisk new → IfErr result IsMoveStop
  pub crash : (at : Point) → RestsAt at old book → Leaves new (λ trees. StandsAt at trees book ⊎ StandsAt (next_point at book) trees book)
