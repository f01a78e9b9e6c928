-- The first step of a credit: all totals are read.
use Rattle.std.specs.Prelude.{◌≡◌, ◌⊎◌, ℕ, List, Any, Result, Err, OnOk, IfOk, IfErr, IsTrue}
use Rattle.sqlite.specs.State.{State, HasCleanDisk, IsUnchanged, KeepsCounts}
use Rattle.mx_base.specs.declared.amounts.Use.{Use}
use Rattle.mx_base.specs.declared.rows.rows.TotalRow.{TotalRow}
use Rattle.mx_layout.specs.declared.fault.TableFault.{TableFault}
use Rattle.mx_layout.specs.declared.fault.TableFault.TheVariants.{Memory, Store, Damaged}
use Rattle.mx_layout.specs.declared.fault.Table.TheVariants.{Total2}
use Rattle.mx_layout.specs.Contents.{rows_in}
use Rattle.mx_layout.specs.Crash.{StaysInside, IsWithin}
use Rattle.mx_layout.specs.Tables.{total2}
use Rattle.mx_layout.specs.kept.Cells.{kept_total2}
use Rattle.mx_tables.specs.Calls.{OnRead}
use Rattle.mx_tables.specs.inserts.Sets.{IsInside}
use Rattle.mx_table_rows.specs.totals.Totals.{CanCredit, AreCredited}

-- nothing was changed, if anything was read at all
pub record Keeps (old new : State) : Type 0 where
  pub was_open : IsTrue new.is_open → IsTrue old.is_open
  pub now_is : new.now ≡ old.now
  pub committed_is : new.committed ≡ old.committed
  pub mode : new.in_transaction ≡ old.in_transaction
  pub counts : KeepsCounts old new
  pub marks : new.marks ≡ old.marks

-- the totals of the items were read, with the use added, or that of one can't be; and nothing changed; or the call stopped
pub record ReadsTotals {V : Type 0} (added : Use) (items : List ℕ) (rows_of : V → List TotalRow) (old new : State) (result : Result V TableFault) : Type 0 where
  pub rows : HasCleanDisk new → kept_total2.IsIn old.now.schema → IfOk result (λ v. AreCredited added (rows_in total2 old.now.trees) items (rows_of v))
  pub cause : IfErr result (λ e. (e ≡ Memory) ⊎ ((e ≡ Store) ⊎ (e ≡ Damaged Total2)))
  pub damaged : HasCleanDisk new → kept_total2.IsIn old.now.schema → result ≡ Err (Damaged Total2) → Any (λ item. ¬ CanCredit added (rows_in total2 old.now.trees) item) items
  pub unchanged : HasCleanDisk new → kept_total2.IsIn old.now.schema → result ≡ Err (Damaged Total2) → IsUnchanged old new
  pub keeps : HasCleanDisk new → kept_total2.IsIn old.now.schema → OnOk result (Keeps old new)
  pub mode : HasCleanDisk new → IsTrue old.in_transaction → OnRead result (IsTrue new.in_transaction)
  pub inside : HasCleanDisk new → IsInside old → OnRead result (StaysInside old new)
  pub within : IsWithin old new
