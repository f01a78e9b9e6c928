-- The first rows of a table whose rows are those of a list, and single rows of it.
use Rattle.std.proofs.Common.{◌≡◌, ◌+◌, ◌≤◌, ℕ, Bool, true, false, cond, List, [], ◌∷◌, map, filter, take, All, None, Some, refl, sym, ap, ap₂, subst, ◌∙◌, arith}
use Rattle.std.specs.Prelude.{Contains}
use Rattle.std.specs.List.{AllByRecursion}
use Rattle.std.specs.List.Sorted.{IsPermutation, IsSorted}
use Rattle.std.specs.declared.cmp.Ordering.{Ordering}
use Rattle.std.proofs.lemmas.List.{take-map}
use Rattle.std.proofs.lemmas.List.Elements.{All-contains, All-contains_itself, All-filter, All-from_recursion, All-map, All-take, recursion_from_All}
use Rattle.sqlite_keyed.proofs.ListLemmas.{filter-map, IsPermutation-filter}
use Rattle.std.proofs.lemmas.List.Sorted.{All-permutation, Contains-permutation, IsPermutation-sym, IsPermutation-trans, length_permutation}
use Rattle.sqlite_rules.proofs.ListLemmas.{contains_had, has_contained, has_filtered}
use Rattle.sqlite.specs.Order.{Row}
use Rattle.sqlite.specs.Table.{Table}
use Rattle.sqlite.specs.Tree.{Trees}
use Rattle.mx_base.specs.rows.Rising.{IsRising}
use Rattle.mx_base.proofs.RowsProofs.SortedLemmas.{IsFrom-map, IsRising-map, sorted_once}
use Rattle.mx_registers.proofs.PointsProofs.OneBook.{all_there}
use Rattle.mx_layout.specs.Contents.{rows_in}
use Rattle.mx_layout.specs.Names.{table_named}
use Rattle.mx_layout.specs.Reading.{HasOther, IsRowOf}
use Rattle.mx_layout.specs.kept.Kept.{Kept}
use Rattle.mx_layout.specs.kept.Meanings.{IsLawful}
use Rattle.mx_table_rows.specs.chosen.Choices.{AreFirst, is_any}
use Rattle.mx_book_tables.proofs.StandsProofs.RowLemmas.{cells_once}

-- ── lists that rise ──

lower : {X : Type 0} (key : X → ℕ) (low more high : ℕ) (xs : List X) → low ≤ more → IsRising key more xs high → IsRising key low xs high
lower key low more high [] h up = omega arith
lower key low more high (x ∷ xs) h up = (omega arith, up.1)

-- what is left of a list that rises, rises
pub rises_left : {X : Type 0} (key : X → ℕ) (p : X → Bool) (low high : ℕ) (xs : List X) → IsRising key low xs high → IsRising key low (filter p xs) high
rises_left key p low high [] up = up
rises_left key p low high (x ∷ xs) up =
    elim (p x) as (λ b. IsRising key low (cond b (x ∷ filter p xs) (filter p xs)) high)
    [ true ↦ (up.0, rises_left key p (key x + 1) high xs up.1) | false ↦ lower key low (key x + 1) high (filter p xs) (omega (arith, up.0)) (rises_left key p (key x + 1) high xs up.1) ]

-- ── the first rows ──

-- rows that are of a type are what things of the type are kept as
typed_of : {X : Type 0} (as_cells : X → Row) (Fits : X → Type 0) (rows : List Row) → AllByRecursion (IsRowOf as_cells Fits) rows → (xs : List X) × (map as_cells xs ≡ rows) × AllByRecursion Fits xs
typed_of as_cells Fits [] all = ([], refl, tt)
typed_of as_cells Fits (row ∷ rows) all = let rest = typed_of as_cells Fits rows all.1 in (all.0.0 ∷ rest.0, ap₂ ◌∷◌ (sym all.0.2) rest.1, (all.0.1, rest.2))

module _ {X : Type 0} (k : Kept X) (law : IsLawful k) where
  -- the first so many rows of a table whose rows are those of a list that rises by the key
  pub first_are : (most low high : ℕ) (trees : Trees) (all rows : List X) → AreFirst (Some most) k.order (table_named k.name) is_any trees (map k.as_cells rows)
      → IsPermutation (map k.as_cells all) (rows_in (table_named k.name) trees) → IsRising k.key low all high → All k.Fits all → All k.Fits rows → rows ≡ take most all
  first_are most low high trees all rows first given up fits fits_rows =
      let stored = rows_in (table_named k.name) trees in
      let same : IsPermutation (map k.as_cells all) first.those = IsPermutation-trans _ _ _ given (subst (λ l. IsPermutation l first.those) (all_there stored) first.are.all) in
      let good : All (IsRowOf k.as_cells k.Fits) first.those = All-permutation (IsRowOf k.as_cells k.Fits) _ _ same (All-map (IsRowOf k.as_cells k.Fits) k.as_cells all (λ i d low. (_, fits i d low, refl))) in
      let typed = typed_of k.as_cells k.Fits first.those (recursion_from_All (IsRowOf k.as_cells k.Fits) first.those good) in
      let slow = law.in_order typed.0 (All-from_recursion k.Fits typed.0 typed.2) (subst (IsSorted k.order) (sym typed.1) first.are.sorted) in
      let rising = IsRising-map k.as_cells k.key k.cells_key law.keyed low high all up in
      let those : map k.as_cells all ≡ map k.as_cells typed.0 =
      sorted_once k.cells_key low 0 high (map k.as_cells all) (map k.as_cells typed.0) rising (IsFrom-map k.as_cells k.key k.cells_key law.keyed 0 typed.0 slow) (subst (IsPermutation (map k.as_cells all)) (sym typed.1) same) in
      cells_once k law rows (take most all) fits_rows (All-take k.Fits most all fits)
      (first.first ∙ ap (take most) (sym typed.1 ∙ sym those) ∙ take-map k.as_cells most all)

-- ── single rows ──

-- a row among the first is one of the table
pub among : (most : ℕ) (order : Row → Row → Ordering) (t : Table) (trees : Trees) (rows : List Row) → AreFirst (Some most) order t is_any trees rows → (row : Row) → Contains rows row → Contains (rows_in t trees) row
among most order t trees rows first row there =
    let those = first.those in
    let one = All-contains (Contains those) (take most those) row (All-take (Contains those) most those (All-contains_itself those)) (subst (λ rs. Contains rs row) first.first there) in
    subst (λ l. Contains l row) (all_there (rows_in t trees)) (Contains-permutation those (filter is_any (rows_in t trees)) row (IsPermutation-sym _ _ first.are.all) one)

-- so a row of a page that is none of the type is one of the table
pub page_damaged : (most : ℕ) (order : Row → Row → Ordering) (t : Table) (trees : Trees) (IsGood : Row → Type 0) → (rows : List Row) × AreFirst (Some most) order t is_any trees rows × HasOther IsGood rows → HasOther IsGood (rows_in t trees)
page_damaged most order t trees IsGood h = (h.2.0, among most order t trees h.0 h.1 h.2.0 h.2.1, h.2.2)

pub permutation_none : {X : Type 0} (xs : List X) → IsPermutation [] xs → xs ≡ []
permutation_none [] same = refl
permutation_none (x ∷ xs) same = absurd (omega (arith, length_permutation [] (x ∷ xs) same))

-- ── all rows that are chosen ──

-- of a table whose rows are those of a list that rises by the key
pub chosen_are : {X : Type 0} (k : Kept X) → IsLawful k → (low high : ℕ) (chosen : Row → Bool) (trees : Trees) (all rows : List X) → AreFirst None k.order (table_named k.name) chosen trees (map k.as_cells rows)
    → IsPermutation (map k.as_cells all) (rows_in (table_named k.name) trees) → IsRising k.key low all high → All k.Fits all → All k.Fits rows → rows ≡ filter (λ x. chosen (k.as_cells x)) all
chosen_are {X} k law low high chosen trees all rows are given up fits fits_rows =
    let passes = λ (x : X). chosen (k.as_cells x) in
    let left = filter passes all in
    let stored = filter chosen (rows_in (table_named k.name) trees) in
    let has : IsPermutation (map k.as_cells left) stored = subst (λ l. IsPermutation l stored) (filter-map chosen k.as_cells all) (IsPermutation-filter chosen _ _ given) in
    let shown : IsPermutation stored (map k.as_cells rows) = subst (IsPermutation stored) (sym are.first) are.are.all in
    let sorted : IsSorted k.order (map k.as_cells rows) = subst (IsSorted k.order) (sym are.first) are.are.sorted in
    let rising = IsRising-map k.as_cells k.key k.cells_key law.keyed low high left (rises_left k.key passes low high all up) in
    let slow = IsFrom-map k.as_cells k.key k.cells_key law.keyed 0 rows (law.in_order rows fits_rows sorted) in
    let cells : map k.as_cells left ≡ map k.as_cells rows = sorted_once k.cells_key low 0 high (map k.as_cells left) (map k.as_cells rows) rising slow (IsPermutation-trans _ _ _ has shown) in
    sym (cells_once k law left rows (All-filter passes k.Fits all fits) fits_rows cells)

-- a chosen row that is none of the type is one of the table
pub chosen_damaged : (order : Row → Row → Ordering) (t : Table) (chosen : Row → Bool) (trees : Trees) (IsGood : Row → Type 0) → (rows : List Row) × AreFirst None order t chosen trees rows × HasOther IsGood rows → HasOther IsGood (rows_in t trees)
chosen_damaged order t chosen trees IsGood h =
    let stored = filter chosen (rows_in t trees) in
    let shown : IsPermutation stored h.0 = subst (IsPermutation stored) (sym h.1.first) h.1.are.all in
    let one : Contains stored h.2.0 = Contains-permutation h.0 stored h.2.0 (IsPermutation-sym _ _ shown) h.2.1 in
    (h.2.0, contains_had (rows_in t trees) h.2.0 (has_filtered chosen (rows_in t trees) h.2.0 (has_contained stored h.2.0 one)).0, h.2.2)
