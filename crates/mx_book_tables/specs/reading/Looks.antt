-- What is looked at of a file inside a transaction, and whether its point is the one that is verified.
use Rattle.std.specs.Prelude.{◌≡◌, Bool, false, nat_eq, ◌&&◌, [], ◌∷◌, Result, Ok, Err, IfOk, IfErr, IsTrue}
use Rattle.std.specs.Bool.{Decides}
use Rattle.sqlite.specs.Tree.{Trees}
use Rattle.sqlite.specs.State.{State, HasCleanDisk, IsUnchanged}
use Rattle.mx_base.specs.declared.point.Point.{Point}
use Rattle.mx_registers.specs.declared.points.points.TheConstants.{NEWEST_LAYOUT}
use Rattle.mx_layout.specs.TableName.{TableName}
use Rattle.mx_layout.specs.declared.fault.TableFault.{TableFault}
use Rattle.mx_layout.specs.declared.fault.TableFault.TheVariants as fault
use Rattle.mx_layout.specs.Contents.{rows_in}
use Rattle.mx_layout.specs.Crash.{StaysInside, IsWithin}
use Rattle.mx_layout.specs.Point.{point_cells}
use Rattle.mx_layout.specs.Tables.{office}
use Rattle.mx_tables.specs.Calls.{OnRead}
use Rattle.mx_book_tables.specs.reading.Layout.{HasTables, verified_point}
use Rattle.mx_book_tables.specs.reading.Damage.{HasBadRow, IsCause, IsOfficeRead}

-- ── what is looked at inside a transaction ──

-- Something was looked at inside a transaction, from one state to the next: what is answered is so of the trees, or a table is damaged, and nothing changed; or want of memory or the store stopped the call.
pub record Looks {V : Type 0} (Is : Trees → V → Type 0) (old new : State) (result : Result V TableFault) : Type 0 where
  pub found : HasCleanDisk new → HasTables old.now.schema → IfOk result (Is old.now.trees)
  pub cause : HasCleanDisk new → IfErr result IsCause
  pub damaged : HasCleanDisk new → HasTables old.now.schema → (name : TableName) → result ≡ Err (fault.Damaged name) → HasBadRow old.now.trees name
  pub unchanged : HasCleanDisk new → HasTables old.now.schema → OnRead result (IsUnchanged old new)
  pub inside : HasCleanDisk new → IsTrue old.in_transaction → OnRead result (StaysInside old new)
  pub within : IsWithin old new

-- ── the row of office ──

-- it is that of the point whose tables are verified
abbrev pub IsAtPoint : Trees → Type 0
IsAtPoint trees = rows_in office trees ≡ point_cells verified_point ∷ []

-- it was told whether it is, and is that of a point, or not the only one
pub record TellsPoint (trees : Trees) (at_point : Bool) : Type 0 where
  pub is : Decides at_point (IsAtPoint trees)
  pub read : IsOfficeRead trees

-- this is that point
abbrev pub is_verified_point : Point → Bool
is_verified_point at = nat_eq at.layout NEWEST_LAYOUT && (nat_eq at.step 0 && nat_eq at.mark 0)

-- whether what was read is that point: there is none where `office` has not exactly one row
abbrev pub told_point : Result Point TableFault → Result Bool TableFault
told_point (Ok at) = Ok (is_verified_point at)
told_point (Err fault.NotOurs) = Ok false
told_point (Err other) = Err other
