-- The points that a file can be at, as one answers them, and what is known of the tables of a file at one, whatever rows they have.
use Rattle.std.specs.Prelude.{◌≡◌, ◌⊎◌, ◌<◌, ◌&&◌, ◌||◌, Bool, nat_eq, nat_lt, [], ◌∷◌, true, Result, Ok, Err, IsTrue, OnOk, IfOk, IfErr, if◌then◌else◌}
use Rattle.sqlite.specs.Tree.{Trees}
use Rattle.sqlite.specs.State.{State, HasCleanDisk}
use Rattle.sqlite.specs.Store.{Ghosts}
use Rattle.sqlite.specs.Held.{Held, state}
use Rattle.mx_base.specs.declared.point.Point.{Point}
use Rattle.mx_registers.specs.points.Points.{is_on_way}
use Rattle.mx_layout.specs.declared.fault.Table.TheVariants as table
use Rattle.mx_layout.specs.declared.fault.TableFault.{TableFault}
use Rattle.mx_layout.specs.Contents.{rows_in}
use Rattle.mx_layout.specs.Crash.{ChangesNothing, RestsAs}
use Rattle.mx_layout.specs.Listed.{LacksOffice}
use Rattle.mx_layout.specs.Point.{point_cells, FitsPoint, HoldsPoint, TellsPoint}
use Rattle.mx_layout.specs.Tables.{office}
use Rattle.mx_book_tables.specs.stands.Schemas.{IsOfFile, schema_at}
use Rattle.mx_book_tables.specs.stands.Stands.{LiesAt}
use Rattle.mx_faults.specs.Moving.{fault_from}
use Rattle.mx_faults.specs.declared.moving.MoveFault.{MoveFault}
use Rattle.mx_faults.specs.declared.moving.MoveFault.TheVariants.{Memory, Store, NotOurs, NewerLayout, Damaged}
use Rattle.mx_registers.specs.declared.points.points.TheConstants.{NEWEST_LAYOUT}

-- ── points ──

-- a file can be at the point: on the way to the newest layout, or settled there
abbrev pub is_of_file : Point → Bool
is_of_file at = is_on_way at || ((nat_eq at.layout NEWEST_LAYOUT && nat_eq at.step 0) && nat_eq at.mark 0)

-- the point, where a file can be at it; else why not
abbrev pub checked : Point → Result Point MoveFault
checked at = if nat_lt NEWEST_LAYOUT at.layout then Err (NewerLayout at.layout) else if is_of_file at then Ok at else Err (Damaged table.Office)

-- the one point comes behind the other: its layout is newer, or its step further, or its mark greater
abbrev pub IsBehind : Point → Point → Type 0
IsBehind from to = (from.layout < to.layout) ⊎ ((from.layout ≡ to.layout) × ((from.step < to.step) ⊎ ((from.step ≡ to.step) × (from.mark < to.mark))))

-- ── any rows ──

-- the numbers of the point fit their types, the trees are the tables of a file there, and the row of `office` says so, whatever rows the others have
pub record SaysAt (at : Point) (trees : Trees) : Type 0 where
  pub fits : FitsPoint at
  pub lies : LiesAt at trees
  pub says : rows_in office trees ≡ point_cells at ∷ []

-- no transaction is open, and the tables, and each state of them that a crash may leave, are those of a file at this point, which the row of `office` says
abbrev pub IsPlacedAt : Point → State → Type 0
IsPlacedAt at s = RestsAs s (schema_at at) (SaysAt at)

-- ── what is answered ──

-- a stop of the call: want of memory, or an error of the store
abbrev pub IsMoveStop : MoveFault → Type 0
IsMoveStop fault = (fault ≡ Memory) ⊎ (fault ≡ Store)

-- a point is answered as it was checked, or the call stopped
abbrev pub AnswersAs : Result Point MoveFault → Result Point MoveFault → Type 0
AnswersAs is result = (result ≡ is) ⊎ ((fault : MoveFault) × (result ≡ Err fault) × IsMoveStop fault)

-- the point of a file was read and checked, and nothing changed
pub record TellsPlace (old new : State) (result : Result Point MoveFault) : Type 0 where
  pub unchanged : ChangesNothing old new
  pub is_open : HasCleanDisk new → OnOk result (IsTrue old.is_open)
  pub of_file : IfOk result IsOfFile
  pub exact : (at : Point) → HasCleanDisk new → (IsTrue old.is_open → HoldsPoint at old.now) → FitsPoint at → AnswersAs (checked at) result
  pub absent : HasCleanDisk new → (IsTrue old.is_open → LacksOffice old.now.schema) → AnswersAs (Err NotOurs) result

-- ── in any database ──

-- what is answered where the row of `office` was read so
abbrev pub place_of : Result Point TableFault → Result Point MoveFault
place_of (Ok at) = checked at
place_of (Err fault) = Err (fault_from fault)

-- the query of `office`, in whatever schema, was answered so
abbrev pub TellsRead : {S : Type 0} → Ghosts S → Held S → Result Point MoveFault → Type 0
TellsRead g was result = (read : Result Point TableFault) × TellsPoint g was read × (result ≡ place_of read)

-- the query of `office` told a point on the way to the newest layout, which is the one that its row says
pub record IsOnWay {S : Type 0} (g : Ghosts S) (was : Held S) : Type 0 where
  pub at : Point
  pub way : is_on_way at ≡ true
  pub told : TellsPoint g was (Ok at)
  pub exact : (p : Point) → (IsTrue (state g was).is_open → HoldsPoint p (state g was).now) → FitsPoint p → at ≡ p

-- what `office` says of a database, whatever its tables are, decides whether it is moved
pub record FollowsPoint {S : Type 0} (g : Ghosts S) (was : Held S) (new : State) (result : Result Point MoveFault) : Type 0 where
  -- the query was answered so; where that is no point that a file can be at, why not is answered, and nothing changed
  pub told : HasCleanDisk new → (read : Result Point TableFault) × TellsPoint g was read × IfErr (place_of read) (λ e. (result ≡ Err e) × ChangesNothing (state g was) new)
  -- so where `office` is the first table, and its one row is that of a point; and where no table has that name
  pub exact : (at : Point) → HasCleanDisk new → (IsTrue (state g was).is_open → HoldsPoint at (state g was).now) → FitsPoint at → IfErr (checked at) (λ e. AnswersAs (Err e) result × ChangesNothing (state g was) new)
  pub absent : HasCleanDisk new → (IsTrue (state g was).is_open → LacksOffice (state g was).now.schema) → AnswersAs (Err NotOurs) result × ChangesNothing (state g was) new
  -- nothing changed, but where the query told a point on the way
  pub moves : ChangesNothing (state g was) new ⊎ (HasCleanDisk new → IsOnWay g was)
