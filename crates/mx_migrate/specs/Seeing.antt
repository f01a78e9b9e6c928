-- What a look at a table does to a connection.
use Rattle.std.specs.Prelude.{◌≡◌, ◌≢◌, ◌⊎◌, [], Result, Err, IsTrue, OnOk, IfErr}
use Rattle.sqlite.specs.State.{State, HasCleanDisk, IsUnchanged}
use Rattle.mx_layout.specs.declared.fault.TableFault.{TableFault}
use Rattle.mx_layout.specs.declared.fault.TableFault.TheVariants.{Memory, Store, Damaged}
use Rattle.mx_layout.specs.Contents.{rows_in}
use Rattle.mx_layout.specs.Crash.{StaysInside, IsWithin}
use Rattle.mx_layout.specs.Names.{table_named}
use Rattle.mx_layout.specs.kept.Kept.{Kept}
use Rattle.mx_tables.specs.Calls.{OnRead}

-- the table was looked at: it has no row, or it has one; or want of memory or the store stopped the call; and nothing changed
pub record SeesNone {X V : Type 0} (k : Kept X) (old new : State) (result : Result V TableFault) : Type 0 where
  pub empty : HasCleanDisk new → k.IsIn old.now.schema → OnOk result (rows_in (table_named k.name) old.now.trees ≡ [])
  pub cause : IfErr result (λ e. (e ≡ Memory) ⊎ ((e ≡ Store) ⊎ (e ≡ Damaged k.name)))
  pub damaged : HasCleanDisk new → k.IsIn old.now.schema → result ≡ Err (Damaged k.name) → rows_in (table_named k.name) old.now.trees ≢ []
  pub unchanged : HasCleanDisk new → k.IsIn old.now.schema → OnRead result (IsUnchanged old new)
  pub inside : HasCleanDisk new → IsTrue old.in_transaction → OnRead result (StaysInside old new)
  pub within : IsWithin old new
