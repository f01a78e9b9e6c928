-- What a reader does to a connection, whatever the table.
use Rattle.std.specs.Prelude.{◌≡◌, ◌⊎◌, ℕ, List, [], map, All, Result, Ok, Err, IfOk, IfErr, IsTrue}
use Rattle.std.specs.declared.cmp.Ordering.{Ordering}
use Rattle.sqlite.specs.Order.{Row}
use Rattle.sqlite.specs.Table.{Table}
use Rattle.sqlite.specs.State.{State, HasCleanDisk, Shown, IsUnchanged}
use Rattle.mx_layout.specs.declared.fault.TableFault.{TableFault}
use Rattle.mx_layout.specs.declared.fault.TableFault.TheVariants.{Memory, Store, Damaged}
use Rattle.mx_layout.specs.Contents.{rows_in}
use Rattle.mx_layout.specs.Crash.{StaysInside, IsWithin}
use Rattle.mx_layout.specs.Names.{table_named}
use Rattle.mx_layout.specs.Reading.{AreAllBy, HasOther}
use Rattle.mx_layout.specs.kept.Kept.{Kept}
use Rattle.mx_layout.specs.kept.Family.{IsReadableAs}

-- between these states the text shows all rows of the table, in this order, and changes nothing
pub record ShowsAll (text : List ℕ) (table : Table) (order : Row → Row → Ordering) (old new : State) : Type 0 where
  pub all : (rows : List Row) → Shown text [] old new rows → AreAllBy order table old.now.trees rows
  pub same : (rows : List Row) → Shown text [] old new rows → IsUnchanged old new

-- a damaged table is an answer, and the other faults are none
abbrev pub OnDamaged : TableFault → Type 0 → Type 0
OnDamaged (Damaged table) P = P
OnDamaged _ P = Unit {0}

-- P, where a reader answered: it gave the rows, or found a row that is none of its type
abbrev pub OnRead : {T : Type 0} → Result T TableFault → Type 0 → Type 0
OnRead (Ok rows) P = P
OnRead (Err fault) P = OnDamaged fault P

-- a table was read: exactly its rows in their order, each fitting, or that some row is none of the type, and nothing changed; or want of memory or the store stopped the call
pub record ReadsRows {X V : Type 0} (k : Kept X) (items : V → List X) (old new : State) (result : Result V TableFault) : Type 0 where
  pub rows : HasCleanDisk new → k.IsIn old.now.schema → IfOk result (λ v. AreAllBy k.order (table_named k.name) old.now.trees (map k.as_cells (items v)))
  pub fits : IfOk result (λ v. All k.Fits (items v))
  pub cause : IfErr result (λ e. (e ≡ Memory) ⊎ ((e ≡ Store) ⊎ (e ≡ Damaged k.name)))
  pub damaged : HasCleanDisk new → k.IsIn old.now.schema → result ≡ Err (Damaged k.name) → HasOther (IsReadableAs k) (rows_in (table_named k.name) old.now.trees)
  pub unchanged : HasCleanDisk new → k.IsIn old.now.schema → OnRead result (IsUnchanged old new)
  pub inside : HasCleanDisk new → IsTrue old.in_transaction → OnRead result (StaysInside old new)
  pub within : IsWithin old new
