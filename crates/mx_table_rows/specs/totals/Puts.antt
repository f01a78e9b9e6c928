-- Rows that are written one after another: each in place of those with its key, or all in place of those that pass a test.
use Rattle.std.specs.Prelude.{◌≡◌, ◌⊎◌, Bool, not, List, [], ◌∷◌, ◌++◌, map, filter, Result, OnOk, IfErr, IsTrue}
use Rattle.sqlite.specs.Order.{Row}
use Rattle.sqlite.specs.State.{State, HasCleanDisk}
use Rattle.mx_layout.specs.declared.fault.TableFault.{TableFault}
use Rattle.mx_layout.specs.declared.fault.TableFault.TheVariants.{Memory, Store}
use Rattle.mx_layout.specs.Contents.{HasNoReferences, Rises}
use Rattle.mx_layout.specs.Crash.{StaysInside, IsWithin}
use Rattle.mx_layout.specs.Names.{table_named}
use Rattle.mx_layout.specs.kept.Kept.{Kept}
use Rattle.mx_tables.specs.inserts.Sets.{IsInside}
use Rattle.mx_table_rows.specs.totals.Calls.{Becomes}

-- the rows, with those of these one after another in place of the ones with the key of each
abbrev pub rows_put : {X : Type 0} → Kept X → (X → Row → Bool) → List X → List Row → List Row
rows_put k has_key [] rows = rows
rows_put k has_key (x ∷ xs) rows = rows_put k has_key xs (k.as_cells x ∷ filter (λ row. not (has_key x row)) rows)

-- the rows, with these added
abbrev pub rows_added : {X : Type 0} → Kept X → List X → List Row → List Row
rows_added k xs rows = map k.as_cells xs ++ rows

-- the rows, with these in place of all that pass the test
abbrev pub rows_instead : {X : Type 0} → Kept X → (Row → Bool) → List X → List Row → List Row
rows_instead k test xs rows = rows_added k xs (filter (λ row. not (test row)) rows)

-- the rows of a table became what is made of them, and nothing else changed; or want of memory or the store stopped the call
pub record WritesRows {X V : Type 0} (k : Kept X) (made : List Row → List Row) (old new : State) (result : Result V TableFault) : Type 0 where
  pub becomes : HasCleanDisk new → IsTrue old.in_transaction → k.IsIn old.now.schema → HasNoReferences old.now.schema → Rises (table_named k.name) old.now.trees → OnOk result (Becomes (table_named k.name) made old.now new.now)
  pub cause : IfErr result (λ e. (e ≡ Memory) ⊎ (e ≡ Store))
  pub mode : HasCleanDisk new → IsTrue old.in_transaction → OnOk result (IsTrue new.in_transaction)
  pub inside : HasCleanDisk new → IsInside old → OnOk result (StaysInside old new)
  pub within : IsWithin old new

-- rows were written one after another, each in place of those with its key; or the call stopped
abbrev pub PutsRows : {X V : Type 0} → Kept X → (X → Row → Bool) → List X → State → State → Result V TableFault → Type 0
PutsRows k has_key xs old new result = WritesRows k (rows_put k has_key xs) old new result
