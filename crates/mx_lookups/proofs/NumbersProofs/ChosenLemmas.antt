-- Rows that were chosen from a table are those of the rows that it keeps, in their order.
use Rattle.std.proofs.Common.{arith, ◌≡◌, ℕ, ◌+◌, ◌≤◌, Bool, true, false, List, [], ◌∷◌, map, filter, cond, All, None, sym, subst, ◌∙◌}
use Rattle.std.specs.List.Sorted.{IsPermutation, IsSorted}
use Rattle.std.specs.Prelude.{Contains}
use Rattle.std.proofs.lemmas.List.Sorted.{IsPermutation-trans, IsPermutation-sym, Contains-permutation, All-permutation}
use Rattle.std.proofs.lemmas.List.Elements.{All-filter, All-contains}
use Rattle.sqlite_keyed.proofs.ListLemmas.{filter-map, filter_same, IsPermutation-filter}
use Rattle.sqlite_rules.proofs.ListLemmas.{has_filtered, has_contained, contains_had}
use Rattle.sqlite.specs.Order.{Row}
use Rattle.sqlite.specs.Tree.{Trees}
use Rattle.sqlite.specs.Table.{Table}
use Rattle.std.specs.declared.cmp.Ordering.{Ordering}
use Rattle.mx_base.specs.rows.Rising.{IsRising}
use Rattle.mx_base.proofs.RowsProofs.SortedLemmas.{sorted_once, IsRising-map, IsFrom-map}
use Rattle.mx_layout.specs.Contents.{rows_in}
use Rattle.mx_layout.specs.Names.{table_named}
use Rattle.mx_layout.specs.Reading.{HasOther}
use Rattle.mx_layout.specs.kept.Kept.{Kept}
use Rattle.mx_layout.specs.kept.Family.{IsReadableAs}
use Rattle.mx_layout.specs.kept.Meanings.{IsLawful}
use Rattle.mx_table_rows.specs.chosen.Choices.{AreFirst}
use Rattle.mx_book_tables.proofs.StandsProofs.RowLemmas.{cells_once, good_rows}
use Rattle.mx_lookups.specs.numbers.Keeping.{KeepsRows}

-- a list that rises rises from less on too
lower : {X : Type 0} (key : X → ℕ) (low more high : ℕ) (xs : List X) → low ≤ more → IsRising key more xs high → IsRising key low xs high
lower key low more high [] h up = omega arith
lower key low more high (x ∷ xs) h up = (omega arith, up.1)

-- what is left of a list that rises, rises
rises_left : {X : Type 0} (key : X → ℕ) (p : X → Bool) (low high : ℕ) (xs : List X) → IsRising key low xs high → IsRising key low (filter p xs) high
rises_left key p low high [] up = up
rises_left key p low high (x ∷ xs) up =
    elim (p x) as (λ b. IsRising key low (cond b (x ∷ filter p xs) (filter p xs)) high)
    [ true ↦ (up.0, rises_left key p (key x + 1) high xs up.1) | false ↦ lower key low (key x + 1) high (filter p xs) (omega (arith, up.0)) (rises_left key p (key x + 1) high xs up.1) ]

module _ {X : Type 0} (k : Kept X) (law : IsLawful k) where
  -- what was chosen is what the rows of the table have that passes the test
  pub chosen_is : (trees : Trees) (rows : List X) → KeepsRows k trees rows → (chosen : Row → Bool) (picks : X → Bool) → ((x : X) → chosen (k.as_cells x) ≡ picks x)
      → (xs : List X) → AreFirst None k.order (table_named k.name) chosen trees (map k.as_cells xs) → All k.Fits xs → xs ≡ filter picks rows
  chosen_is trees rows keeps chosen picks same xs are fits =
      let passes = λ (x : X). chosen (k.as_cells x) in
      let left = filter passes rows in
      let stored = filter chosen (rows_in (table_named k.name) trees) in
      let has : IsPermutation (map k.as_cells left) stored = subst (λ l. IsPermutation l stored) (filter-map chosen k.as_cells rows) (IsPermutation-filter chosen _ _ keeps.given) in
      let shown : IsPermutation stored (map k.as_cells xs) = subst (IsPermutation stored) (sym are.first) are.are.all in
      let sorted : IsSorted k.order (map k.as_cells xs) = subst (IsSorted k.order) (sym are.first) are.are.sorted in
      let rising = IsRising-map k.as_cells k.key k.cells_key law.keyed keeps.low keeps.high left (rises_left k.key passes keeps.low keeps.high rows keeps.rise) in
      let slow = IsFrom-map k.as_cells k.key k.cells_key law.keyed 0 xs (law.in_order xs fits sorted) in
      let cells : map k.as_cells left ≡ map k.as_cells xs = sorted_once k.cells_key keeps.low 0 keeps.high (map k.as_cells left) (map k.as_cells xs) rising slow (IsPermutation-trans _ _ _ has shown) in
      sym (cells_once k law left xs (All-filter passes k.Fits rows keeps.fit) fits cells) ∙ filter_same passes picks same rows

-- a chosen row that is none of the type is one of the table
pub other_chosen : (IsGood : Row → Type 0) {order : Row → Row → Ordering} (table : Table) (chosen : Row → Bool) (trees : Trees) (rows : List Row) → AreFirst None order table chosen trees rows → HasOther IsGood rows → HasOther IsGood (rows_in table trees)
other_chosen IsGood table chosen trees rows are it =
    let stored = filter chosen (rows_in table trees) in
    let shown : IsPermutation stored rows = subst (IsPermutation stored) (sym are.first) are.are.all in
    let one : Contains stored it.0 = Contains-permutation rows stored it.0 (IsPermutation-sym _ _ shown) it.1 in
    (it.0, contains_had (rows_in table trees) it.0 (has_filtered chosen (rows_in table trees) it.0 (has_contained stored it.0 one)).0, it.2)

-- a table with rows of a type has no other
pub no_other : {X : Type 0} (k : Kept X) (law : IsLawful k) (trees : Trees) (rows : List X) → All k.Fits rows → IsPermutation (map k.as_cells rows) (rows_in (table_named k.name) trees) → HasOther (IsReadableAs k) (rows_in (table_named k.name) trees) → ⊥
no_other k law trees rows fit given other =
    let stored = rows_in (table_named k.name) trees in
    let good : All (IsReadableAs k) (map k.as_cells rows) = good_rows k law rows fit in
    other.2 (All-contains (IsReadableAs k) stored other.0 (All-permutation (IsReadableAs k) _ _ given good) other.1)

-- so has one that keeps rows of the type
pub none_other : {X : Type 0} (k : Kept X) (law : IsLawful k) (trees : Trees) (rows : List X) → KeepsRows k trees rows → HasOther (IsReadableAs k) (rows_in (table_named k.name) trees) → ⊥
none_other k law trees rows keeps = no_other k law trees rows keeps.fit keeps.given
