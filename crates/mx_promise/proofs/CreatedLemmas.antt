-- What is found of a file in which a book was being made.
use Rattle.std.proofs.Common.{◌≢◌, ◌⊎◌, inl, inr, [], Result, Ok, Err, OnOk, IfOk, IfErr}
use Rattle.std.proofs.Math.Logic.{∥∥₁_map}
use Rattle.sqlite.specs.State.{State, HasCleanDisk}
use Rattle.sqlite.specs.Tree.{Trees}
use Rattle.sqlite_catalog.specs.Listing.{IsSound}
use Rattle.mx_layout.specs.declared.fault.TableFault.{TableFault}
use Rattle.mx_layout.specs.declared.fault.TableFault.TheVariants.{Memory, Store, NotOurs, Exists, Damaged}
use Rattle.mx_layout.specs.Crash.{Leaves, RestsAs, ChangesNothing}
use Rattle.mx_database.specs.power.Found.{IsFound, Finds}
use Rattle.mx_layout.specs.Making.{IsEmptyIn}
use Rattle.mx_layout.specs.Steps.{schema_of}
use Rattle.mx_layout.specs.Tables.{no_schema}
use Rattle.mx_layout.proofs.CrashLemmas.{rests_kept}
use Rattle.mx_database.proofs.PowerProofs.FoundLemmas.{rests_found, found_before}
use Rattle.mx_office.specs.Layout.{office_point, office_schema}
use Rattle.mx_office.specs.Stands.{Rests}
use Rattle.mx_office.proofs.StandsLemmas.{empty_stands}
use Rattle.mx_promise.specs.Created.{IsBare, IsMade, MayBeMade}
use Rattle.mx_promise.proofs.KeptLemmas.{rests_as}

module _ (old end again : State) (clean : HasCleanDisk end) (bare : IsBare old) (crash : Leaves end (λ db. IsSound no_schema db ⊎ IsEmptyIn office_point.layout db)) (found : IsFound end.may_leave again) where
  empty_book : IsEmptyIn office_point.layout found.tables → Rests again []
  empty_book empty = rests_as office_schema end.may_leave again [] found (empty_stands found.tables empty)

  no_table : IsSound no_schema found.tables → IsBare again
  no_table none = rests_found end.may_leave again no_schema (IsSound no_schema) found none none

  nothing_done : ChangesNothing old end → IsBare again
  nothing_done nothing = no_table ((rests_kept no_schema (IsSound no_schema) old end nothing bare).crash clean found.tables found.left)

  pub is_made : {X : Type 0} (answer : Result X TableFault) → OnOk answer (RestsAs end (schema_of office_point.layout) (IsEmptyIn office_point.layout)) → IfErr answer (λ fault. fault ≢ Store → ChangesNothing old end) → IsMade answer again
  is_made (Ok x) made unchanged = empty_book (made.crash clean found.tables found.left)
  is_made (Err Memory) made unchanged = nothing_done (unchanged (λ h. cc))
  is_made (Err Store) made unchanged = elim (crash clean found.tables found.left) [ inl none ↦ inr (no_table none) | inr empty ↦ inl (empty_book empty) ]
  is_made (Err NotOurs) made unchanged = nothing_done (unchanged (λ h. cc))
  is_made (Err Exists) made unchanged = nothing_done (unchanged (λ h. cc))
  is_made (Err (Damaged table)) made unchanged = nothing_done (unchanged (λ h. cc))

-- what a crash may leave behind the call
module _ (old end : State) (clean : HasCleanDisk end) (bare : IsBare old) (crash : Leaves end (λ db. IsSound no_schema db ⊎ IsEmptyIn office_point.layout db)) where
  left_alone : ChangesNothing old end → (db : Trees) → end.may_leave db → IsSound no_schema db
  left_alone nothing db may = (rests_kept no_schema (IsSound no_schema) old end nothing bare).crash clean db may

  pub may_be_made : {X : Type 0} (answer : Result X TableFault) → OnOk answer (RestsAs end (schema_of office_point.layout) (IsEmptyIn office_point.layout)) → IfErr answer (λ fault. fault ≢ Store → ChangesNothing old end)
      → (db : Trees) → end.may_leave db → MayBeMade answer db
  may_be_made (Ok x) made unchanged db may = empty_stands db (made.crash clean db may)
  may_be_made (Err Memory) made unchanged db may = left_alone (unchanged (λ h. cc)) db may
  may_be_made (Err Store) made unchanged db may = elim (crash clean db may) [ inl none ↦ inr none | inr empty ↦ inl (empty_stands db empty) ]
  may_be_made (Err NotOurs) made unchanged db may = left_alone (unchanged (λ h. cc)) db may
  may_be_made (Err Exists) made unchanged db may = left_alone (unchanged (λ h. cc)) db may
  may_be_made (Err (Damaged table)) made unchanged db may = left_alone (unchanged (λ h. cc)) db may

-- what was opened, where it was, has what follows from two facts of it
pub if_opened : {X E : Type 0} {P Q R : X → Type 0} (opened : Result X E) → IfOk opened P → IfOk opened Q → ((again : X) → P again → Q again → R again) → IfOk opened R
if_opened (Ok again) one other both = both again one other
if_opened (Err error) one other both = tt

-- what a crash may leave behind a call that changed nothing, it might leave before
pub finds_before : {X E : Type 0} (shown : X → State) (old end : State) (opened : Result X E) → ChangesNothing old end → IfOk opened (λ again. HasCleanDisk (shown again) → HasCleanDisk end)
    → IfOk opened (λ again. Finds end.may_leave (shown again)) → IfOk opened (λ again. Finds old.may_leave (shown again))
finds_before shown old end opened nothing sure found = if_opened opened sure found (λ again sure' found' clean. ∥∥₁_map (found' clean) (found_before old end (shown again) (sure' clean) nothing))

pub unless_store : {X Y E : Type 0} (shown : Y → State) (old end : State) (answer : Result X TableFault) (opened : Result Y E) → IfErr answer (λ fault. fault ≢ Store → ChangesNothing old end)
    → IfOk opened (λ again. HasCleanDisk (shown again) → HasCleanDisk end) → IfOk opened (λ again. Finds end.may_leave (shown again))
    → IfErr answer (λ fault. fault ≢ Store → IfOk opened (λ again. Finds old.may_leave (shown again)))
unless_store shown old end (Ok x) opened unchanged sure found = tt
unless_store shown old end (Err fault) opened unchanged sure found = λ other. finds_before shown old end opened (unchanged other) sure found
