-- Rows that come in place of others: what a table has then, what the call does to a connection, and the texts that delete the others.
use Rattle.std.specs.Prelude.{◌≡◌, ◌≢◌, ◌⊎◌, Bool, not, List, ◌∷◌, filter, codes, ℕ, IsPermutation, Result, OnOk, IfErr, IsTrue}
use Rattle.std.specs.List.{AllByRecursion}
use Rattle.sqlite.specs.Order.{Row}
use Rattle.sqlite.specs.Table.{Table}
use Rattle.sqlite.specs.Effect.{Database, IsDatabase}
use Rattle.sqlite.specs.State.{State, HasCleanDisk}
use Rattle.mx_layout.specs.declared.fault.TableFault.{TableFault}
use Rattle.mx_layout.specs.declared.fault.TableFault.TheVariants.{Memory, Store}
use Rattle.mx_layout.specs.Contents.{rows_in, HasNoReferences, Rises}
use Rattle.mx_layout.specs.Crash.{StaysInside, IsWithin}
use Rattle.mx_layout.specs.Names.{table_named}
use Rattle.mx_layout.specs.kept.Kept.{Kept}

-- the table has the one row in place of those that are chosen, and each other table of the schema is as it was
pub record Replaces (table : Table) (chosen : Row → Bool) (row : Row) (old new : Database) : Type 0 where
  pub schema : new.schema ≡ old.schema
  pub replaced : IsPermutation (row ∷ filter (λ r. not (chosen r)) (rows_in table old.trees)) (rows_in table new.trees)
  pub others : AllByRecursion (λ t. t.tree ≢ table.tree → new.trees t.tree ≡ old.trees t.tree) old.schema.tables
  pub rises : Rises table new.trees
  pub sound : IsDatabase new

-- the table has the one row in place of those that are chosen, and nothing else changed; or want of memory or the store stopped the call
pub record ReplacesRows {X V : Type 0} (k : Kept X) (chosen : Row → Bool) (x : X) (old new : State) (result : Result V TableFault) : Type 0 where
  pub replaces : HasCleanDisk new → IsTrue old.in_transaction → k.IsIn old.now.schema → HasNoReferences old.now.schema → Rises (table_named k.name) old.now.trees → OnOk result (Replaces (table_named k.name) chosen (k.as_cells x) old.now new.now)
  pub cause : IfErr result (λ e. (e ≡ Memory) ⊎ (e ≡ Store))
  pub inside : HasCleanDisk new → IsTrue old.in_transaction → OnOk result (StaysInside old new)
  pub within : IsWithin old new

-- ── the texts that delete the others ──

abbrev pub span2_gone : List ℕ
span2_gone = codes "DELETE FROM span2 WHERE fit_seq = ?1"

abbrev pub total2_gone : List ℕ
total2_gone = codes "DELETE FROM total2 WHERE item = ?1"

abbrev pub base2_gone : List ℕ
base2_gone = codes "DELETE FROM base2 WHERE item = ?1 AND task = ?2"

abbrev pub defect3_gone : List ℕ
defect3_gone = codes "DELETE FROM defect3 WHERE seq = ?1"

abbrev pub done3_gone : List ℕ
done3_gone = codes "DELETE FROM done3 WHERE item = ?1 AND task = ?2 AND seq = ?3 AND line = ?4"

abbrev pub done3_of_task_gone : List ℕ
done3_of_task_gone = codes "DELETE FROM done3 WHERE item = ?1 AND task = ?2"
