-- The last entry tells how many there are, where entries are numbered from 1 on.
use Rattle.std.proofs.Common.{arith, ◌≡◌, ◌⊎◌, inl, inr, ℕ, ◌+◌, ◌-◌, false, List, [], ◌∷◌, ◌++◌, map, take, All, length, Some, refl, sym, ap, ap₂, subst, subst₂, ◌∙◌, slice_index_or, length-append}
use Rattle.std.specs.Prelude.{reverse}
use Rattle.std.specs.List.{AllByRecursion, range_with_len}
use Rattle.std.specs.List.Sorted.{IsPermutation, IsSorted}
use Rattle.std.specs.Ordering.{is_lt}
use Rattle.std.specs.declared.cmp.Ordering.{Ordering}
use Rattle.std.proofs.lemmas.List.{get_or-reverse, length-reverse, map-append, reverse-reverse, reverse-append}
use Rattle.std.proofs.lemmas.List.Elements.{All-map, recursion_from_All}
use Rattle.std.proofs.lemmas.List.Sorted.{IsPermutation-trans, IsPermutation-reverse, All-permutation}
use Rattle.sqlite_keyed.proofs.ListLemmas.{filter_all, all_of}
use Rattle.sqlite.specs.Order.{Row}
use Rattle.sqlite.specs.Tree.{Trees}
use Rattle.mx_base.specs.rows.Rising.{IsRising}
use Rattle.mx_base.specs.declared.rows.rows.EntryRow.{EntryRow}
use Rattle.mx_base.proofs.RowsProofs.SortedLemmas.{sorted_once, IsRising-map, IsFrom-map}
use Rattle.mx_layout.specs.Contents.{rows_in}
use Rattle.mx_layout.specs.Names.{table_named}
use Rattle.mx_layout.specs.kept.Keys.{one_key}
use Rattle.mx_layout.specs.kept.Cells.{kept_entry}
use Rattle.mx_layout.proofs.KeptProofs.OrderLemmas.{first_ascends}
use Rattle.mx_table_rows.specs.chosen.Choices.{AreFirst, backward, is_any}
use Rattle.mx_table_rows.specs.chosen.Counts.{AreNumbered, last_number}

-- a list that is sorted backward, the other way round
turned : {X : Type 0} (order : X → X → Ordering) (xs : List X) → IsSorted (λ a b. order b a) xs → IsSorted order (reverse xs)
turned order xs sorted k d low high =
    let n = length xs in
    let long : length (reverse xs) ≡ n = length-reverse xs in
    let j = n - 1 - (k + 1) in
    let one = get_or-reverse xs (k + 1) d (omega (arith, high, long)) in
    let two = get_or-reverse xs k d (omega (arith, high, long)) in
    let next : n - 1 - k ≡ j + 1 = omega (arith, high, long) in
    subst (λ y. is_lt (order y (slice_index_or (reverse xs) k d)) ≡ false) (sym one)
    (subst (λ y. is_lt (order (slice_index_or xs j d) y) ≡ false) (sym (two ∙ ap (λ i. slice_index_or xs i d) next)) (sorted j d (omega arith) (omega (arith, high, long))))

-- rows that are each kept of something are those of a list
kept_of : {X : Type 0} (as_cells : X → Row) (rows : List Row) → AllByRecursion (λ row. (x : X) × (row ≡ as_cells x)) rows → (xs : List X) × (map as_cells xs ≡ rows)
kept_of as_cells [] all = ([], refl)
kept_of as_cells (row ∷ rows) all = let rest = kept_of as_cells rows all.1 in (all.0.0 ∷ rest.0, ap₂ ◌∷◌ (sym all.0.1) rest.1)

-- numbers that follow one another rise
numbers_rise : (from : ℕ) (entries : List EntryRow) → map (λ e. e.seq) entries ≡ range_with_len from (length entries) → IsRising (λ e. e.seq) from entries (from + length entries)
numbers_rise from [] same = omega arith
numbers_rise from (e ∷ entries) same =
    let first : e.seq ≡ from = cc in
    let rest : map (λ x. x.seq) entries ≡ range_with_len (from + 1) (length entries) = cc in
    (omega (arith, first), subst₂ (λ low high. IsRising (λ x. x.seq) low entries high) (ap (λ n. n + 1) (sym first)) (omega arith) (numbers_rise (from + 1) entries rest))

-- and the last of them is how many they are
last_of_numbers : (from : ℕ) (before : List EntryRow) (last : EntryRow) → map (λ e. e.seq) (before ++ last ∷ []) ≡ range_with_len from (length (before ++ last ∷ [])) → last.seq ≡ from + length before
last_of_numbers from [] last same = let first : last.seq ≡ from = cc in omega (arith, first)
last_of_numbers from (e ∷ before) last same =
    let rest : map (λ x. x.seq) (before ++ last ∷ []) ≡ range_with_len (from + 1) (length (before ++ last ∷ [])) = cc in
    let it = last_of_numbers (from + 1) before last rest in omega (arith, it)

-- a list is empty, or has a last element
snoc : {X : Type 0} (xs : List X) → (xs ≡ []) ⊎ ((before : List X) × (last : X) × (xs ≡ before ++ last ∷ []))
snoc [] = inl refl
snoc (x ∷ xs) = elim (snoc xs) [ inl none ↦ inr ([], x, ap (λ l. x ∷ l) none) | inr some ↦ inr (x ∷ some.0, some.1, ap (λ l. x ∷ l) some.2) ]

-- all entries, the last of them first
entries_are : (trees : Trees) (entries : List EntryRow) → AreNumbered entries → IsPermutation (map kept_entry.as_cells entries) (rows_in (table_named kept_entry.name) trees)
    → (shown : List Row) → AreFirst (Some 1) (backward kept_entry.order) (table_named kept_entry.name) is_any trees shown → shown ≡ take 1 (reverse (map kept_entry.as_cells entries))
entries_are trees entries numbered given shown first =
    let cells = kept_entry.as_cells in
    let IsEntry : Row → Type 0 = λ row. (e : EntryRow) × (row ≡ cells e) in
    let stored = rows_in (table_named kept_entry.name) trees in
    let all : IsPermutation stored first.those = subst (λ rows. IsPermutation rows first.those) (filter_all is_any stored (all_of _ (λ _. refl) stored)) first.are.all in
    let same : IsPermutation (map cells entries) (reverse first.those) = IsPermutation-trans _ _ _ given (IsPermutation-trans _ _ _ all (IsPermutation-reverse first.those)) in
    let good : All IsEntry (reverse first.those) = All-permutation IsEntry _ _ same (All-map IsEntry cells entries (λ i d low. (_, refl))) in
    let kept = kept_of cells (reverse first.those) (recursion_from_All IsEntry _ good) in
    let slow = first_ascends cells (λ _. Unit {0}) kept_entry.key (λ _. refl) kept.0 (λ i d low. tt) (subst (IsSorted kept_entry.order) (sym kept.1) (turned kept_entry.order first.those first.are.sorted)) in
    let high = 1 + length entries in
    let rising = IsRising-map cells kept_entry.key one_key (λ _. refl) 1 high entries (numbers_rise 1 entries numbered) in
    let those : map cells entries ≡ map cells kept.0 =
    sorted_once one_key 1 0 high (map cells entries) (map cells kept.0) rising (IsFrom-map cells kept_entry.key one_key (λ _. refl) 0 kept.0 slow) (subst (IsPermutation (map cells entries)) (sym kept.1) same) in
    first.first ∙ ap (take 1) (sym (reverse-reverse first.those) ∙ ap reverse (sym kept.1 ∙ sym those))

none_found : (found : List EntryRow) → map kept_entry.as_cells found ≡ [] → last_number found ≡ 0
none_found [] same = refl
none_found (e ∷ found) same = absurd cc

one_found : (last : EntryRow) (more : List Row) (found : List EntryRow) → map kept_entry.as_cells found ≡ take 1 (kept_entry.as_cells last ∷ more) → last_number found ≡ last.seq
one_found last more [] same = absurd cc
one_found last more (e ∷ found) same = cc

pub last_tells : (trees : Trees) (entries found : List EntryRow) → AreNumbered entries → IsPermutation (map kept_entry.as_cells entries) (rows_in (table_named kept_entry.name) trees)
    → AreFirst (Some 1) (backward kept_entry.order) (table_named kept_entry.name) is_any trees (map kept_entry.as_cells found) → last_number found ≡ length entries
last_tells trees entries found numbered given first = by (snoc entries)
  where
    are : map kept_entry.as_cells found ≡ take 1 (reverse (map kept_entry.as_cells entries))
    are = entries_are trees entries numbered given (map kept_entry.as_cells found) first

    by : (entries ≡ []) ⊎ ((before : List EntryRow) × (last : EntryRow) × (entries ≡ before ++ last ∷ [])) → last_number found ≡ length entries
    by (inl none) = none_found found (are ∙ ap (λ es. take 1 (reverse (map kept_entry.as_cells es))) none) ∙ sym (ap length none)
    by (inr some) =
        let before = map kept_entry.as_cells some.0 in
        let row = kept_entry.as_cells some.1 in
        let turned_is : reverse (map kept_entry.as_cells entries) ≡ row ∷ reverse before =
        ap (λ es. reverse (map kept_entry.as_cells es)) some.2 ∙ ap reverse (map-append kept_entry.as_cells some.0 (some.1 ∷ [])) ∙ reverse-append before (row ∷ []) in
        let tells = one_found some.1 (reverse before) found (are ∙ ap (take 1) turned_is) in
        let number = last_of_numbers 1 some.0 some.1 (subst AreNumbered some.2 numbered) in
        let size : length entries ≡ length some.0 + 1 = ap length some.2 ∙ length-append some.0 (some.1 ∷ []) in
        omega (arith, tells, number, size)
