-- The steps of a use that is entered late: what is read, which rows are made of it, and in whose place these come.
use Rattle.std.specs.Prelude.{◌≡◌, ℕ, Bool, true, List, map, filter, All, Any, Option, Some, None, Result, Ok, Err, OnOk, IfOk, IfErr, IsTrue, IsPermutation, if◌then◌else◌}
use Rattle.std.specs.List.{flat_map, list_any}
use Rattle.sqlite.specs.Order.{Row}
use Rattle.sqlite.specs.Tree.{Trees}
use Rattle.sqlite.specs.State.{State, HasCleanDisk, IsUnchanged}
use Rattle.mx_base.specs.declared.amounts.Use.{Use}
use Rattle.mx_base.specs.declared.rows.rows.DoneRow.{DoneRow}
use Rattle.mx_book.specs.due.Due.{IsLife}
use Rattle.mx_layout.specs.TableName.{TableName}
use Rattle.mx_layout.specs.declared.fault.TableFault.{TableFault}
use Rattle.mx_layout.specs.declared.fault.TableFault.TheVariants.{Damaged}
use Rattle.mx_layout.specs.declared.fault.Table.TheVariants.{Crs, Done3}
use Rattle.mx_layout.specs.Contents.{rows_in}
use Rattle.mx_layout.specs.Crash.{StaysInside, IsWithin}
use Rattle.mx_layout.specs.Tables.{crs, done3}
use Rattle.mx_layout.specs.kept.Cells.{kept_done3}
use Rattle.mx_tables.specs.Calls.{OnRead}
use Rattle.mx_tables.specs.inserts.Sets.{IsInside}
use Rattle.mx_table_rows.specs.totals.Done.{is_own_line, IsDated}
use Rattle.mx_table_rows.specs.totals.Late.{is_behind, life_at, done_with, HasRelease, IsLateFault}
use Rattle.mx_table_rows.specs.totals.Several.{HasUnreadable}
use Rattle.mx_table_rows.specs.totals.Steps.{Keeps}
use Rattle.mx_table_rows.specs.totals.Totals.{life_with, is_of_item, is_of_any}

-- ── read ──

-- P of the table that is told damaged
abbrev pub IfDamaged : TableFault → (TableName → Type 0) → Type 0
IfDamaged (Damaged table) P = P table
IfDamaged _ P = Unit {0}

-- P of the table that a call told damaged
abbrev pub OfDamaged : {T : Type 0} → Result T TableFault → (TableName → Type 0) → Type 0
OfDamaged (Ok v) P = Unit {0}
OfDamaged (Err fault) P = IfDamaged fault P

-- something was read of some tables, or one of them is bad, and nothing changed; or want of memory or the store stopped the call
pub record ReadsLate {V : Type 0} (Is : Trees → V → Type 0) (IsBad : Trees → TableName → Type 0) (old new : State) (result : Result V TableFault) : Type 0 where
  pub value : HasCleanDisk new → kept_done3.IsIn old.now.schema → IfOk result (Is old.now.trees)
  pub cause : IfErr result IsLateFault
  pub damaged : HasCleanDisk new → kept_done3.IsIn old.now.schema → OfDamaged result (IsBad old.now.trees)
  pub unchanged : HasCleanDisk new → kept_done3.IsIn old.now.schema → OfDamaged result (λ _. IsUnchanged old new)
  pub keeps : HasCleanDisk new → kept_done3.IsIn old.now.schema → OnOk result (Keeps old new)
  pub mode : HasCleanDisk new → IsTrue old.in_transaction → OnRead result (IsTrue new.in_transaction)
  pub inside : HasCleanDisk new → IsInside old → OnRead result (StaysInside old new)
  pub within : IsWithin old new

-- the accomplishments of each of the items in turn
abbrev pub of_each : List ℕ → List Row → List Row
of_each items rows = flat_map (λ item. filter (is_of_item item) rows) items

-- exactly the accomplishments of each of the items in turn, each fitting
pub record AreOfEach (items : List ℕ) (trees : Trees) (done : List DoneRow) : Type 0 where
  pub fit : All kept_done3.Fits done
  pub those : IsPermutation (of_each items (rows_in done3 trees)) (map kept_done3.as_cells done)

-- an accomplishment of one of the items is none of the type
abbrev pub AreUnread : List ℕ → Trees → TableName → Type 0
AreUnread items trees Done3 = HasUnreadable kept_done3 (is_of_any items) (rows_in done3 trees)
AreUnread items trees _ = ⊥

-- the release of the accomplishment is behind the landing
abbrev pub was_behind : ℕ → List Row → DoneRow → Bool
was_behind landed releases x = is_behind landed releases (kept_done3.as_cells x)

-- behind the landing the days of the accomplishment are in the calendar, and its value with the use added is a life
abbrev pub CanTake : Use → ℕ → List Row → DoneRow → Type 0
CanTake added landed releases x = was_behind landed releases x ≡ true → IsDated x × IsLife (life_with (life_at x) added)

-- the accomplishment can be written with the use added, and its release is there where it needs one
pub record IsGiven (added : Use) (landed : ℕ) (releases : List Row) (x : DoneRow) : Type 0 where
  pub can : CanTake added landed releases x
  pub has : HasRelease releases (kept_done3.as_cells x)

-- the accomplishment with the use added, or none where it is not behind the landing
pub record IsTaken (added : Use) (landed : ℕ) (x : DoneRow) (trees : Trees) (made : Option DoneRow) : Type 0 where
  pub given : IsGiven added landed (rows_in crs trees) x
  pub is : made ≡ (if was_behind landed (rows_in crs trees) x then Some (done_with added x) else None)

-- the accomplishment can't be written with the use added, or its release is missing
abbrev pub CantTake : Use → ℕ → DoneRow → Trees → TableName → Type 0
CantTake added landed x trees Done3 = ¬ CanTake added landed (rows_in crs trees) x
CantTake added landed x trees Crs = ¬ HasRelease (rows_in crs trees) (kept_done3.as_cells x)
CantTake added landed x trees _ = ⊥

-- those of some accomplishments that are behind the landing, each with the use added
pub record AreTaken (added : Use) (landed : ℕ) (done : List DoneRow) (trees : Trees) (made : List DoneRow) : Type 0 where
  pub given : All (IsGiven added landed (rows_in crs trees)) done
  pub are : made ≡ map (done_with added) (filter (was_behind landed (rows_in crs trees)) done)

-- one of some accomplishments can't be written so
abbrev pub OneCantTake : Use → ℕ → List DoneRow → Trees → TableName → Type 0
OneCantTake added landed done trees table = Any (λ x. CantTake added landed x trees table) done

-- those of the accomplishments of the items that are behind the landing, each with the use added
pub record AreLate (items : List ℕ) (added : Use) (landed : ℕ) (trees : Trees) (made : List DoneRow) : Type 0 where
  pub done : List DoneRow
  pub read : AreOfEach items trees done
  pub taken : AreTaken added landed done trees made

-- ── written ──

-- the row is that of the line of one of these accomplishments
abbrev pub is_any_line : List DoneRow → Row → Bool
is_any_line xs row = list_any (λ x. is_own_line x row) xs
