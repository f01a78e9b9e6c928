-- What an insert does to a connection, whatever the table.
use Rattle.std.specs.Prelude.{◌≡◌, ◌⊎◌, ℕ, List, Result, OnOk, IfErr, IsTrue}
use Rattle.sqlite.specs.Order.{Row}
use Rattle.sqlite.specs.Table.{Table}
use Rattle.sqlite.specs.State.{State, HasCleanDisk, ExecutesInside}
use Rattle.sqlite.specs.declared.error.Error.{Error}
use Rattle.mx_layout.specs.declared.fault.TableFault.{TableFault}
use Rattle.mx_layout.specs.declared.fault.TableFault.TheVariants.{Memory, Store}
use Rattle.mx_layout.specs.Crash.{StaysInside, IsWithin}
use Rattle.mx_layout.specs.Names.{table_named}
use Rattle.mx_layout.specs.Writing.{Gains}
use Rattle.mx_layout.specs.kept.Kept.{Kept}

-- between these states the text, with these values, adds the row to the table
pub record AddsRow (text : List ℕ) (table : Table) (row : Row) (old new : State) : Type 0 where
  pub gains : (ran : Result ℕ Error) → ExecutesInside 0 text row old new ran → OnOk ran (Gains table row old.now new.now)

-- the table gained the one row, and every other table is as it was; or want of memory or the store stopped the call
pub record InsertsRow {X V : Type 0} (k : Kept X) (x : X) (old new : State) (result : Result V TableFault) : Type 0 where
  pub gains : HasCleanDisk new → IsTrue old.in_transaction → k.IsIn old.now.schema → OnOk result (Gains (table_named k.name) (k.as_cells x) old.now new.now)
  pub cause : IfErr result (λ e. (e ≡ Memory) ⊎ (e ≡ Store))
  pub inside : HasCleanDisk new → IsTrue old.in_transaction → OnOk result (StaysInside old new)
  pub within : IsWithin old new
