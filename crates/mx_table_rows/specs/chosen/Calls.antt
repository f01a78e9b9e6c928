-- What a reader of chosen rows and a deletion do to a connection, whatever the table.
use Rattle.std.specs.Prelude.{◌≡◌, ◌⊎◌, ℕ, Bool, List, Vec, map, All, Option, None, Result, Err, OnOk, IfOk, IfErr, IsTrue}
use Rattle.std.specs.declared.cmp.Ordering.{Ordering}
use Rattle.sqlite.specs.Order.{Row}
use Rattle.sqlite.specs.Table.{Table}
use Rattle.sqlite.specs.State.{State, HasCleanDisk, Shown, IsUnchanged, ExecutesInside}
use Rattle.sqlite.specs.declared.error.Error.{Error}
use Rattle.mx_layout.specs.declared.fault.TableFault.{TableFault}
use Rattle.mx_layout.specs.declared.fault.TableFault.TheVariants.{Memory, Store, Damaged}
use Rattle.mx_layout.specs.Contents.{HasNoReferences, Rises}
use Rattle.mx_layout.specs.Crash.{StaysInside, IsWithin}
use Rattle.mx_layout.specs.Names.{table_named}
use Rattle.mx_layout.specs.Reading.{HasOther}
use Rattle.mx_layout.specs.kept.Kept.{Kept}
use Rattle.mx_layout.specs.kept.Family.{IsReadableAs}
use Rattle.mx_tables.specs.Calls.{OnRead}
use Rattle.sqlite.specs.declared.types.Value.{Value}
use Rattle.mx_table_rows.specs.chosen.Choices.{has_value, AreFirst, Loses}

-- between these states the text, with these values, shows the first so many of the rows that are chosen, in this order, and changes nothing
pub record ShowsFirst (text : List ℕ) (values : Row) (most : Option ℕ) (table : Table) (order : Row → Row → Ordering) (chosen : Row → Bool) (old new : State) : Type 0 where
  pub those : (rows : List Row) → Shown text values old new rows → AreFirst most order table chosen old.now.trees rows
  pub same : (rows : List Row) → Shown text values old new rows → IsUnchanged old new

-- between these states the text, with these values, deletes the rows that are chosen
pub record DeletesThose (text : List ℕ) (values : Row) (table : Table) (chosen : Row → Bool) (old new : State) : Type 0 where
  pub loses : (ran : Result ℕ Error) → HasNoReferences old.now.schema → Rises table old.now.trees → ExecutesInside 0 text values old new ran → OnOk ran (Loses table chosen old.now new.now)

-- chosen rows of a table were read: exactly those, the first so many of them, each fitting, or that one of those is none of the type, and nothing changed; or want of memory or the store stopped the call
pub record ReadsFirst {X V : Type 0} (k : Kept X) (most : Option ℕ) (order : Row → Row → Ordering) (chosen : Row → Bool) (items : V → List X) (old new : State) (result : Result V TableFault) : Type 0 where
  pub rows : HasCleanDisk new → k.IsIn old.now.schema → IfOk result (λ v. AreFirst most order (table_named k.name) chosen old.now.trees (map k.as_cells (items v)))
  pub fits : IfOk result (λ v. All k.Fits (items v))
  pub cause : IfErr result (λ e. (e ≡ Memory) ⊎ ((e ≡ Store) ⊎ (e ≡ Damaged k.name)))
  pub damaged : HasCleanDisk new → k.IsIn old.now.schema → result ≡ Err (Damaged k.name) → (rows : List Row) × AreFirst most order (table_named k.name) chosen old.now.trees rows × HasOther (IsReadableAs k) rows
  pub unchanged : HasCleanDisk new → k.IsIn old.now.schema → OnRead result (IsUnchanged old new)
  pub inside : HasCleanDisk new → IsTrue old.in_transaction → OnRead result (StaysInside old new)
  pub within : IsWithin old new

-- the rows of a table with this value in a column were read, in the order of the table
abbrev pub ReadsBy : {X A : Type 0} → Kept X → ℕ → Value → State → State → Result (Vec X A) TableFault → Type 0
ReadsBy k at value old new result = ReadsFirst k None k.order (has_value at value) (λ rows. rows.items) old new result

-- the chosen rows of a table were deleted, and nothing else; or want of memory or the store stopped the call
pub record DeletesRows {X V : Type 0} (k : Kept X) (chosen : Row → Bool) (old new : State) (result : Result V TableFault) : Type 0 where
  pub loses : HasCleanDisk new → IsTrue old.in_transaction → k.IsIn old.now.schema → HasNoReferences old.now.schema → Rises (table_named k.name) old.now.trees → OnOk result (Loses (table_named k.name) chosen old.now new.now)
  pub cause : IfErr result (λ e. (e ≡ Memory) ⊎ (e ≡ Store))
  pub inside : HasCleanDisk new → IsTrue old.in_transaction → OnOk result (StaysInside old new)
  pub within : IsWithin old new
