-- A use that is entered late: what becomes of totals, and of the values of accomplishments whose release is behind the landing.
use Rattle.std.specs.Prelude.{◌≡◌, ◌≢◌, ◌⊎◌, ℕ, ◌+◌, pos, Bool, true, false, not, List, ◌∷◌, filter, All, Any, Result, Err, OnOk, IfErr, IsTrue, IsPermutation, ◌&&◌}
use Rattle.std.specs.List.{AllByRecursion, list_any}
use Rattle.sqlite.specs.declared.types.Value.TheVariants.{Int}
use Rattle.sqlite.specs.Order.{Row, column}
use Rattle.sqlite.specs.Tree.{Trees}
use Rattle.sqlite.specs.Effect.{Database, IsDatabase}
use Rattle.sqlite.specs.State.{State, HasCleanDisk, IsUnchanged}
use Rattle.mx_base.specs.declared.amounts.Use.{Use}
use Rattle.mx_base.specs.declared.rows.rows.DoneRow.{DoneRow}
use Rattle.mx_book.specs.due.Due.{IsLife}
use Rattle.mx_layout.specs.TableName.{TableName}
use Rattle.mx_layout.specs.declared.fault.TableFault.{TableFault}
use Rattle.mx_layout.specs.declared.fault.TableFault.TheVariants.{Memory, Store, Damaged}
use Rattle.mx_layout.specs.declared.fault.Table.TheVariants.{Crs, Total2, Done3}
use Rattle.mx_layout.specs.Contents.{rows_in, HasNoReferences, Rises}
use Rattle.mx_layout.specs.Crash.{StaysInside, IsWithin}
use Rattle.mx_layout.specs.Reading.{HasOther}
use Rattle.mx_layout.specs.Tables.{crs, total2, done3}
use Rattle.mx_layout.specs.kept.Cells.{kept_crs, kept_done3}
use Rattle.mx_tables.specs.Calls.{OnRead}
use Rattle.mx_tables.specs.inserts.Sets.{IsInside}
use Rattle.mx_table_rows.specs.chosen.Choices.{has_value}
use Rattle.mx_table_rows.specs.totals.Calls.{change_where}
use Rattle.mx_table_rows.specs.totals.Found.{is_from}
use Rattle.mx_table_rows.specs.totals.Single.{HasOne}
use Rattle.mx_table_rows.specs.totals.Totals.{life_with, is_of_any, number_with, credited, CanCredit}

-- an opening stated the accomplishment, which has no release then: its line is 0
abbrev pub is_stated : Row → Bool
is_stated row = has_value 3 (Int (pos 0)) row

-- the release is that of the entry of the accomplishment
abbrev pub is_release_of : Row → Row → Bool
is_release_of row release = has_value 0 (column row 2) release

-- the accomplishment has a release whose moment is not before the landing
abbrev pub is_behind : ℕ → List Row → Row → Bool
is_behind landed releases row = not (is_stated row) && list_any (λ release. is_release_of row release && is_from landed (column release 3)) releases

-- the row is that of an accomplishment of one of these items, behind the landing
abbrev pub is_late : List ℕ → ℕ → List Row → Row → Bool
is_late items landed releases row = is_of_any items row && is_behind landed releases row

-- the row of an accomplishment with a use added to the minutes and cycles of its value
abbrev pub value_credited : Use → Row → Row
value_credited added (item ∷ task ∷ seq ∷ line ∷ minutes ∷ cycles ∷ rest) = item ∷ task ∷ seq ∷ line ∷ number_with added.minutes minutes ∷ number_with added.cycles cycles ∷ rest
value_credited added row = row

-- what the item had been used at the accomplishment
abbrev pub life_at : DoneRow → Use
life_at x = record { minutes = x.value.minutes; cycles = x.value.cycles }

-- the accomplishment with a use added to its value
abbrev pub done_with : Use → DoneRow → DoneRow
done_with added x = record x { value = record x.value { minutes = x.value.minutes + added.minutes; cycles = x.value.cycles + added.cycles } }

-- the row is that of an accomplishment that can be read, and behind the landing its value with the use added is a life
pub record CanCreditValue (added : Use) (landed : ℕ) (releases : List Row) (row : Row) : Type 0 where
  pub done : DoneRow
  pub fits : kept_done3.Fits done
  pub is : row ≡ kept_done3.as_cells done
  pub life : is_behind landed releases row ≡ true → IsLife (life_with (life_at done) added)

-- an opening stated the accomplishment, or exactly one of the releases is its own, and can be read
abbrev pub HasRelease : List Row → Row → Type 0
HasRelease releases row = is_stated row ≡ false → HasOne kept_crs (is_release_of row) releases

-- the use can be added to the total of each of the items, and to the value of each of their accomplishments that is behind the landing, and each of these that needs a release has one
pub record CanCreditLate (items : List ℕ) (added : Use) (landed : ℕ) (trees : Trees) : Type 0 where
  pub totals : All (CanCredit added (rows_in total2 trees)) items
  pub values : All (CanCreditValue added landed (rows_in crs trees)) (filter (is_of_any items) (rows_in done3 trees))
  pub releases : All (HasRelease (rows_in crs trees)) (filter (is_of_any items) (rows_in done3 trees))

-- why a table is told damaged: a total can't be credited, a value can't, or a release is missing; and no other table is
abbrev pub CantCreditLate : List ℕ → Use → ℕ → Trees → TableName → Type 0
CantCreditLate items added landed trees Total2 = Any (λ item. ¬ CanCredit added (rows_in total2 trees) item) items
CantCreditLate items added landed trees Done3 = HasOther (CanCreditValue added landed (rows_in crs trees)) (filter (is_of_any items) (rows_in done3 trees))
CantCreditLate items added landed trees Crs = HasOther (HasRelease (rows_in crs trees)) (filter (is_of_any items) (rows_in done3 trees))
CantCreditLate items added landed trees _ = ⊥

-- what a call may stop at
abbrev pub IsLateFault : TableFault → Type 0
IsLateFault e = (e ≡ Memory) ⊎ ((e ≡ Store) ⊎ ((e ≡ Damaged Total2) ⊎ ((e ≡ Damaged Done3) ⊎ (e ≡ Damaged Crs))))

-- totals and accomplishments became what is made of each, in some order, and each other table of the schema is as it was
pub record BecomeBoth (totals_made done_made : List Row → List Row) (old new : Database) : Type 0 where
  pub schema : new.schema ≡ old.schema
  pub totals : IsPermutation (totals_made (rows_in total2 old.trees)) (rows_in total2 new.trees)
  pub done : IsPermutation (done_made (rows_in done3 old.trees)) (rows_in done3 new.trees)
  pub others : AllByRecursion (λ t. t.tree ≢ total2.tree → t.tree ≢ done3.tree → new.trees t.tree ≡ old.trees t.tree) old.schema.tables
  pub totals_rise : Rises total2 new.trees
  pub done_rise : Rises done3 new.trees
  pub sound : IsDatabase old → IsDatabase new

-- the use was added to the totals of the items, and to the values of those of their accomplishments that are behind the landing, and nothing else changed
abbrev pub BecomeLate : List ℕ → Use → ℕ → Database → Database → Type 0
BecomeLate items added landed old new = BecomeBoth (change_where (is_of_any items) (credited added)) (change_where (is_late items landed (rows_in crs old.trees)) (value_credited added)) old new

-- a use that is entered late was added to totals and values; or a table is damaged, and nothing changed; or want of memory or the store stopped the call
pub record CreditsLate {V : Type 0} (items : List ℕ) (added : Use) (landed : ℕ) (old new : State) (result : Result V TableFault) : Type 0 where
  pub becomes : HasCleanDisk new → IsTrue old.in_transaction → kept_done3.IsIn old.now.schema → HasNoReferences old.now.schema → Rises total2 old.now.trees → Rises done3 old.now.trees → OnOk result (BecomeLate items added landed old.now new.now)
  pub good : HasCleanDisk new → kept_done3.IsIn old.now.schema → OnOk result (CanCreditLate items added landed old.now.trees)
  pub cause : IfErr result IsLateFault
  pub damaged : HasCleanDisk new → kept_done3.IsIn old.now.schema → (table : TableName) → result ≡ Err (Damaged table) → CantCreditLate items added landed old.now.trees table
  pub unchanged : HasCleanDisk new → kept_done3.IsIn old.now.schema → (table : TableName) → result ≡ Err (Damaged table) → IsUnchanged old new
  pub mode : HasCleanDisk new → IsTrue old.in_transaction → OnRead result (IsTrue new.in_transaction)
  pub inside : HasCleanDisk new → IsInside old → OnRead result (StaysInside old new)
  pub within : IsWithin old new
