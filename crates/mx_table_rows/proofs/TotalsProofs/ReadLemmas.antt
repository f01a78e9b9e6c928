-- What is read of a table, from the chosen rows that are read.
use Rattle.std.proofs.Common.{◌≡◌, inl, inr, Bool, List, [], ◌∷◌, map, filter, Option, None, Some, Vec, Ok, Err, Result, All, refl, sym, ap, subst, ◌∙◌, IsTrue, Contains, arith}
use Rattle.std.specs.Prelude.{IsErrAnd, IsSorted}
use Rattle.std.specs.List.Sorted.{IsPermutation}
use Rattle.std.proofs.lemmas.List.Sorted.{IsPermutation-sym, Contains-permutation}
use Rattle.sqlite_rules.proofs.ListLemmas.{has_contained}
use Rattle.sqlite.specs.Order.{Row}
use Rattle.sqlite.specs.State.{State, HasCleanDisk, IsUnchanged}
use Rattle.mx_layout.specs.declared.fault.TableFault.{TableFault}
use Rattle.mx_layout.specs.declared.fault.TableFault.TheVariants.{Damaged}
use Rattle.mx_layout.specs.Contents.{rows_in}
use Rattle.mx_layout.specs.Crash.{StaysInside, IsWithin}
use Rattle.mx_layout.specs.Names.{table_named}
use Rattle.mx_layout.specs.Reading.{HasOther}
use Rattle.mx_layout.specs.kept.Kept.{Kept}
use Rattle.mx_layout.specs.kept.Family.{IsReadableAs}
use Rattle.mx_layout.specs.kept.Meanings.{IsLawful}
use Rattle.mx_table_rows.specs.chosen.Choices.{AreFirst}
use Rattle.mx_table_rows.specs.chosen.Calls.{ReadsFirst}
use Rattle.mx_table_rows.specs.totals.Calls.{ReadsFrom}
use Rattle.mx_table_rows.specs.totals.Single.{only_of, one_or_none_of, one_in, one_or_none_in, IsOnly, HasOne, IsOneOrNone, HasOneOrNone}
use Rattle.mx_table_rows.specs.totals.Several.{AreExactly, HasUnreadable}
use Rattle.mx_table_rows.proofs.TotalsProofs.RowLemmas.{permutation_one, permutation_none}

-- a call that stopped says which error it is
pub stopped_is : {T E : Type 0} (e : E) (result : Result T E) → IsErrAnd result (λ f. f ≡ e) → result ≡ Err e
stopped_is e (Ok v) is = absurd is
stopped_is e (Err f) is = ap Err is

module _ {X : Type 0} (k : Kept X) (test : Row → Bool) (old new : State) where
  abbrev stored : List Row
  stored = rows_in (table_named k.name) old.now.trees

  those_are : (rows : List Row) → AreFirst None k.order (table_named k.name) test old.now.trees rows → IsPermutation (filter test stored) rows
  those_are rows are = subst (IsPermutation (filter test stored)) (sym are.first) are.are.all

  other_count : (rows : List Row) (row : Row) → AreFirst None k.order (table_named k.name) test old.now.trees rows → filter test stored ≡ row ∷ [] → rows ≡ row ∷ []
  other_count rows row are only = permutation_one rows row (IsPermutation-sym (row ∷ []) rows (subst (λ l. IsPermutation l rows) only (those_are rows are)))

  none_count : (rows : List Row) → AreFirst None k.order (table_named k.name) test old.now.trees rows → filter test stored ≡ [] → rows ≡ []
  none_count rows are none = permutation_none rows (IsPermutation-sym [] rows (subst (λ l. IsPermutation l rows) none (those_are rows are)))

  not_one : (rows : List Row) → AreFirst None k.order (table_named k.name) test old.now.trees rows → HasOther (IsReadableAs k) rows → ¬ HasOne k test stored
  not_one rows are other one =
      let here = subst (λ l. Contains l other.0) (other_count rows (k.as_cells one.0) are one.1.only) other.1 in
      elim (has_contained (k.as_cells one.0 ∷ []) other.0 here) [ inl is ↦ other.2 (one.0, one.1.fits, is) | inr none ↦ none ]

  -- what is read, where the chosen rows were
  module _ (xs : List X) (all : HasCleanDisk new → k.IsIn old.now.schema → AreFirst None k.order (table_named k.name) test old.now.trees (map k.as_cells xs)) (fits : All k.Fits xs) (same : HasCleanDisk new → k.IsIn old.now.schema → IsUnchanged old new)
      (inside : HasCleanDisk new → IsTrue old.in_transaction → StaysInside old new) (within : IsWithin old new) where
    reads_good : {V : Type 0} (Is : List Row → V → Type 0) (AreBad : List Row → Type 0) (v : V) → (HasCleanDisk new → k.IsIn old.now.schema → Is stored v) → ReadsFrom k Is AreBad old new (Ok v)
    reads_good Is AreBad v is = record { value = is; cause = tt; damaged = λ _ _ not. (absurd cc); unchanged = same; inside = inside; within = within }

    reads_bad : {V : Type 0} (Is : List Row → V → Type 0) (AreBad : List Row → Type 0) → (HasCleanDisk new → k.IsIn old.now.schema → AreBad stored) → ReadsFrom {V = V} k Is AreBad old new (Err (Damaged k.name))
    reads_bad Is AreBad bad = record { value = λ _ _. tt; cause = inr (inr refl); damaged = λ clean has _. bad clean has; unchanged = same; inside = inside; within = within }

  -- nothing was read
  reads_none : {V W : Type 0} {items : V → List X} (Is : List Row → W → Type 0) (AreBad : List Row → Type 0) (e : TableFault) → ((rows : List Row) → AreFirst None k.order (table_named k.name) test old.now.trees rows → HasOther (IsReadableAs k) rows → AreBad stored)
      → ReadsFirst k None k.order test items old new (Err e) → ReadsFrom k Is AreBad old new (Err e)
  reads_none Is AreBad e bad r = record {
    value = λ _ _. tt;
    cause = r.cause;
    damaged = λ clean has is. (let other = r.damaged clean has (cc) in bad other.0 other.1 other.2);
    unchanged = r.unchanged;
    inside = r.inside;
    within = r.within;
  }

  reads_one_in : (xs : List X) → (HasCleanDisk new → k.IsIn old.now.schema → AreFirst None k.order (table_named k.name) test old.now.trees (map k.as_cells xs)) → All k.Fits xs → (HasCleanDisk new → k.IsIn old.now.schema → IsUnchanged old new)
      → (HasCleanDisk new → IsTrue old.in_transaction → StaysInside old new) → IsWithin old new → ReadsFrom k (IsOnly k test) (λ rows. ¬ HasOne k test rows) old new (one_in k.name xs)
  reads_one_in [] all fits same inside within = reads_bad [] all fits same inside within (IsOnly k test) (λ rows. ¬ HasOne k test rows) (λ clean has one. (let none = other_count [] (k.as_cells one.0) (all clean has) one.1.only in absurd (cc none)))
  reads_one_in (x ∷ []) all fits same inside within =
      reads_good (x ∷ []) all fits same inside within (IsOnly k test) (λ rows. ¬ HasOne k test rows) x (λ clean has. record { only = permutation_one _ _ (those_are _ (all clean has)); fits = fits 0 x (omega arith) })
  reads_one_in (x ∷ y ∷ xs) all fits same inside within =
      reads_bad (x ∷ y ∷ xs) all fits same inside within (IsOnly k test) (λ rows. ¬ HasOne k test rows) (λ clean has one. (let many = other_count (map k.as_cells (x ∷ y ∷ xs)) (k.as_cells one.0) (all clean has) one.1.only in absurd (cc many)))

  -- the one row that was read is the only one that passes the test
  pub reads_only : {A : Type 0} (read : Result (Vec X A) TableFault) → ReadsFirst k None k.order test (λ rows. rows.items) old new read
      → ReadsFrom k (IsOnly k test) (λ rows. ¬ HasOne k test rows) old new (only_of k.name read)
  reads_only (Ok rows) r = reads_one_in rows.items r.rows r.fits r.unchanged r.inside r.within
  reads_only (Err e) r = reads_none (IsOnly k test) (λ rows. ¬ HasOne k test rows) e not_one r

  not_some : (rows : List Row) → AreFirst None k.order (table_named k.name) test old.now.trees rows → HasOther (IsReadableAs k) rows → ¬ HasOneOrNone k test stored
  not_some rows are other (None, found) =
      let here = subst (λ l. Contains l other.0) (none_count rows are found.those) other.1 in
      has_contained [] other.0 here
  not_some rows are other (Some x, found) = not_one rows are other (x, record { only = found.those; fits = found.fits })

  reads_some_in : (xs : List X) → (HasCleanDisk new → k.IsIn old.now.schema → AreFirst None k.order (table_named k.name) test old.now.trees (map k.as_cells xs)) → All k.Fits xs → (HasCleanDisk new → k.IsIn old.now.schema → IsUnchanged old new)
      → (HasCleanDisk new → IsTrue old.in_transaction → StaysInside old new) → IsWithin old new → ReadsFrom k (IsOneOrNone k test) (λ rows. ¬ HasOneOrNone k test rows) old new (one_or_none_in k.name xs)
  reads_some_in [] all fits same inside within =
      reads_good [] all fits same inside within (IsOneOrNone k test) (λ rows. ¬ HasOneOrNone k test rows) None (λ clean has. record { those = permutation_none _ (those_are _ (all clean has)); fits = tt })
  reads_some_in (x ∷ []) all fits same inside within =
      reads_good (x ∷ []) all fits same inside within (IsOneOrNone k test) (λ rows. ¬ HasOneOrNone k test rows) (Some x) (λ clean has. record { those = permutation_one _ _ (those_are _ (all clean has)); fits = fits 0 x (omega arith) })
  reads_some_in (x ∷ y ∷ xs) all fits same inside within =
      reads_bad (x ∷ y ∷ xs) all fits same inside within (IsOneOrNone k test) (λ rows. ¬ HasOneOrNone k test rows) (λ clean has found. many (all clean has) found.0 found.1)
    where
      many : AreFirst None k.order (table_named k.name) test old.now.trees (map k.as_cells (x ∷ y ∷ xs)) → (found : Option X) → IsOneOrNone k test stored found → ⊥
      many are None found = (let e = none_count (map k.as_cells (x ∷ y ∷ xs)) are found.those in absurd (cc e))
      many are (Some z) found = (let e = other_count (map k.as_cells (x ∷ y ∷ xs)) (k.as_cells z) are found.those in absurd (cc e))

  -- the row that was read, or none, is what passes the test
  pub reads_one_or_none : {A : Type 0} (read : Result (Vec X A) TableFault) → ReadsFirst k None k.order test (λ rows. rows.items) old new read
      → ReadsFrom k (IsOneOrNone k test) (λ rows. ¬ HasOneOrNone k test rows) old new (one_or_none_of k.name read)
  reads_one_or_none (Ok rows) r = reads_some_in rows.items r.rows r.fits r.unchanged r.inside r.within
  reads_one_or_none (Err e) r = reads_none (IsOneOrNone k test) (λ rows. ¬ HasOneOrNone k test rows) e not_some r

  -- the chosen rows that were read are exactly those that pass the test
  pub reads_exactly : {A : Type 0} (read : Result (Vec X A) TableFault) → ReadsFirst k None k.order test (λ rows. rows.items) old new read → ReadsFrom k (λ rows v. AreExactly k test rows v.items) (HasUnreadable k test) old new read
  reads_exactly (Ok xs) r = record {
    value = λ clean has. (let are = r.rows clean has in record { fit = r.fits; those = those_are _ are; sorted = subst (λ l. IsSorted k.order l) (sym are.first) are.are.sorted });
    cause = tt;
    damaged = λ _ _ not. (absurd cc);
    unchanged = r.unchanged;
    inside = r.inside;
    within = r.within;
  }
  reads_exactly (Err e) r = reads_none (λ rows v. AreExactly k test rows v.items) (HasUnreadable k test) e (λ rows are other. (other.0, Contains-permutation rows _ other.0 (IsPermutation-sym _ rows (those_are rows are)) other.1, other.2)) r

-- something else is made of what was read
pub reads_as : {X V W : Type 0} (k : Kept X) (Is : List Row → V → Type 0) (As : List Row → W → Type 0) (AreBad AreWorse : List Row → Type 0) (old new : State) (v : V) (w : W)
    → ((rows : List Row) → Is rows v → As rows w) → ReadsFrom k Is AreBad old new (Ok v) → ReadsFrom k As AreWorse old new (Ok w)
reads_as k Is As AreBad AreWorse old new v w turned r = record { value = λ clean has. turned _ (r.value clean has); cause = tt; damaged = λ _ _ not. (absurd cc); unchanged = r.unchanged; inside = r.inside; within = r.within }

-- nothing was read
pub stops_reading : {X V W : Type 0} (k : Kept X) (Is : List Row → V → Type 0) (As : List Row → W → Type 0) (AreBad AreWorse : List Row → Type 0) (old new : State) (e : TableFault) (result : Result W TableFault)
    → IsErrAnd result (λ f. f ≡ e) → ((rows : List Row) → AreBad rows → AreWorse rows) → ReadsFrom k Is AreBad old new (Err e) → ReadsFrom k As AreWorse old new result
stops_reading {X} {V} {W} k Is As AreBad AreWorse old new e result is bad r =
    subst (λ (s : Result W TableFault). ReadsFrom k As AreWorse old new s) (sym (stopped_is e result is))
    (record { value = λ _ _. tt; cause = r.cause; damaged = λ clean has same. bad _ (r.damaged clean has (cc)); unchanged = r.unchanged; inside = r.inside; within = r.within })

-- something is made of exactly the rows that pass a test
pub reads_of : {X A W : Type 0} (k : Kept X) (test : Row → Bool) (As : List Row → W → Type 0) (AreBad : List Row → Type 0) (old new : State) (v : Vec X A) (w : W)
    → ((rows : List Row) → AreExactly k test rows v.items → As rows w) → ReadsFirst k None k.order test (λ rows. rows.items) old new (Ok v) → ReadsFrom k As AreBad old new (Ok w)
reads_of k test As AreBad old new v w turned r = reads_as k (λ rows u. AreExactly k test rows u.items) As (HasUnreadable k test) AreBad old new v w turned (reads_exactly k test old new (Ok v) r)

-- none of them was read
pub unread_of : {X A W : Type 0} (k : Kept X) (test : Row → Bool) (As : List Row → W → Type 0) (AreBad : List Row → Type 0) (old new : State) (e : TableFault) (result : Result W TableFault)
    → IsErrAnd result (λ f. f ≡ e) → ((rows : List Row) → HasUnreadable k test rows → AreBad rows) → ReadsFirst {V = Vec X A} k None k.order test (λ rows. rows.items) old new (Err e) → ReadsFrom k As AreBad old new result
unread_of {X} {A} k test As AreBad old new e result is bad r = stops_reading {V = Vec X A} k (λ rows u. AreExactly k test rows u.items) As (HasUnreadable k test) AreBad old new e result is bad (reads_exactly k test old new {A = A} (Err e) r)

-- no two things are the only one
pub only_once : {X : Type 0} (k : Kept X) → IsLawful k → (test : Row → Bool) (rows : List Row) (x y : X) → IsOnly k test rows x → IsOnly k test rows y → x ≡ y
only_once k law test rows x y one two = let same : k.as_cells x ∷ [] ≡ k.as_cells y ∷ [] = sym one.only ∙ two.only in law.once x y one.fits two.fits (cc same)

-- what was read is found to be bad
pub reads_worse : {X V W : Type 0} (k : Kept X) (Is : List Row → V → Type 0) (As : List Row → W → Type 0) (AreBad AreWorse : List Row → Type 0) (old new : State) (v : V)
    → ((rows : List Row) → Is rows v → AreWorse rows) → ReadsFrom k Is AreBad old new (Ok v) → ReadsFrom k As AreWorse old new (Err (Damaged k.name))
reads_worse k Is As AreBad AreWorse old new v worse r = record { value = λ _ _. tt; cause = inr (inr refl); damaged = λ clean has _. worse _ (r.value clean has); unchanged = r.unchanged; inside = r.inside; within = r.within }
