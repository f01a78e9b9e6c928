-- Defects that are found at more cycles: each is written in place of the one of its entry, and no two rows of the table have one entry.
use Rattle.std.proofs.Common.{◌≡◌, inl, inr, ℕ, pos, Bool, true, false, not, List, [], ◌∷◌, ◌++◌, map, filter, IsTrue, IsPermutation, sym, ap, subst, subst₂, ◌∙◌, arith}
use Rattle.std.specs.List.{AllByRecursion, IsDistinct, list_any}
use Rattle.std.specs.Ordering.{is_eq}
use Rattle.std.specs.declared.cmp.Ordering.TheVariants.{Less, Equal}
use Rattle.std.proofs.lemmas.Bool.{cases_Bool}
use Rattle.std.proofs.lemmas.Bool.Decides.{nat_tests}
use Rattle.std.proofs.lemmas.Cmp.{tied_itself}
use Rattle.std.proofs.lemmas.List.Sorted.{IsPermutation-map, IsPermutation-sym, IsPermutation-trans, Contains-permutation}
use Rattle.std.proofs.lemmas.Map.Keys.{IsDistinct-IsPermutation}
use Rattle.sqlite_keyed.proofs.ListLemmas.{map-map, filter-map, ascending-filter, IsPermutation-filter}
use Rattle.sqlite_rules.proofs.ListLemmas.{all_has, some_has, some_from, has_kept, has_filtered, has_contained, contains_had}
use Rattle.sqlite_rules.proofs.PlaceLemmas.{tied_same}
use Rattle.sqlite_rules.proofs.ProbeLemmas.{mapped_has}
use Rattle.sqlite_rules.specs.Lists.{Has}
use Rattle.sqlite.specs.declared.types.Value.{Value}
use Rattle.sqlite.specs.declared.types.Value.TheVariants.{Int}
use Rattle.sqlite.specs.Order.{Row, column, value_cmp}
use Rattle.sqlite.specs.Tree.{Trees, rowid, IsTable}
use Rattle.sqlite.specs.Collation.TheVariants.{Binary}
use Rattle.sqlite_schema.specs.Rules.{equal}
use Rattle.sqlite_trees.specs.Tree.{IsAscending}
use Rattle.sqlite_trees.specs.View.{is_int}
use Rattle.sqlite_typed.proofs.TestLemmas.{turn_eq}
use Rattle.sqlite_value.proofs.OrderLemmas.{value_cmp_total}
use Rattle.mx_base.specs.declared.rows.rows.Deferral3Row.{Deferral3Row}
use Rattle.mx_layout.specs.Contents.{cells, rows_in, Rises}
use Rattle.mx_layout.specs.Tables.{defect3}
use Rattle.mx_layout.specs.kept.Cells.{kept_defect3}
use Rattle.mx_table_rows.specs.chosen.Choices.{has_value}
use Rattle.mx_table_rows.proofs.ChosenProofs.DeleteLemmas.{filter_has, map_had, same_test}
use Rattle.mx_table_rows.proofs.ChosenProofs.EqualLemmas.{equal_numbers}
use Rattle.mx_table_rows.specs.totals.Calls.{change_where}
use Rattle.mx_table_rows.specs.totals.Puts.{rows_put}
use Rattle.mx_table_rows.specs.totals.Found.{is_from, is_of_aircraft, is_found_from, is_own_defect, found_later, was_found_from, found_with, AreShifted}
use Rattle.mx_table_rows.proofs.TotalsProofs.PutLemmas.{all_put}
use Rattle.mx_table_rows.proofs.TotalsProofs.RowLemmas.{both_in, where_many, number_is}
use Rattle.mx_table_rows.proofs.TotalsProofs.SpanLemmas.{integer_is}

-- ── no two rows have one number ──

abbrev same_key : Value → Value → Bool
same_key v w = is_eq (value_cmp v w)

later_apart : (r : Row) (rows : List Row) → AllByRecursion (λ s. value_cmp (rowid r) (rowid s) ≡ Less) rows → AllByRecursion (λ v. same_key (rowid r) v ≡ false) (map rowid rows)
later_apart r [] all = tt
later_apart r (s ∷ rows) all = (ap is_eq all.0, later_apart r rows all.1)

rowids_apart : (rows : List Row) → IsTable rows → IsDistinct same_key (map rowid rows)
unfolding IsDistinct
rowids_apart [] up = tt
rowids_apart (r ∷ rows) up = (later_apart r rows up.0, rowids_apart rows up.1)

numbers_apart : (n m : ℕ) → same_key (Int (pos n)) (Int (pos m)) ≡ false → equal Binary (Int (pos n)) (Int (pos m)) ≡ false
numbers_apart n m apart = elim (cases_Bool (equal Binary (Int (pos n)) (Int (pos m)))) [
  | inl same ↦ (let tied : same_key (Int (pos n)) (Int (pos m)) ≡ true = ap (λ i. same_key (Int (pos n)) (Int (pos i))) (sym (number_is n m same)) ∙ ap is_eq (tied_itself value_cmp_total (Int (pos n))) in absurd (cc))
  | inr other ↦ other
]

number_same : (n : ℕ) → equal Binary (Int (pos n)) (Int (pos n)) ≡ true
number_same n = equal_numbers n n ∙ grind (arith, nat_tests)

abbrev number_of : Deferral3Row → Value
number_of x = Int (pos x.deferral.seq)

module _ (cycles : ℕ) where
  each_apart : (x : Deferral3Row) (xs : List Deferral3Row) → AllByRecursion (λ v. same_key (number_of x) v ≡ false) (map number_of xs)
      → AllByRecursion (λ y. is_own_defect y (kept_defect3.as_cells (found_with cycles x)) ≡ false) (map (found_with cycles) xs)
  each_apart x [] all = tt
  each_apart x (y ∷ xs) all = (numbers_apart x.deferral.seq y.deferral.seq all.0, each_apart x xs all.1)

  own_apart : (xs : List Deferral3Row) → IsDistinct same_key (map number_of xs) → IsAscending (λ x y. is_own_defect y (kept_defect3.as_cells x) ≡ false) (map (found_with cycles) xs)
  unfolding IsDistinct
  own_apart [] all = tt
  own_apart (x ∷ xs) all = (each_apart x xs all.0, own_apart xs all.1)

module _ (aircraft cycles landed : ℕ) (trees : Trees) (rises : Rises defect3 trees) (ys : List Deferral3Row) (are : AreShifted aircraft cycles landed (rows_in defect3 trees) ys) where
  abbrev test : Row → Bool
  test = is_found_from aircraft landed

  abbrev rows : List Row
  rows = rows_in defect3 trees

  abbrev stored : List Row
  stored = trees defect3.tree

  -- the defects that are found later
  abbrev xs : List Deferral3Row
  xs = filter (was_found_from landed) are.defects

  -- their rows are those that pass
  those : IsPermutation (filter test rows) (map kept_defect3.as_cells xs)
  those =
      let late = λ (r : Row). is_from landed (column r 2) in
      subst₂ IsPermutation (both_in (is_of_aircraft aircraft) late rows) (filter-map late kept_defect3.as_cells are.defects)
      (IsPermutation-filter late (filter (is_of_aircraft aircraft) rows) (map kept_defect3.as_cells are.defects) are.those)

  numbers : IsDistinct same_key (map number_of xs)
  numbers =
      let passes = λ (r : Row). test (cells defect3 r) in
      let first = λ (r : Row). column r 0 in
      let from : map first (filter test rows) ≡ map rowid (filter passes stored) = ap (map first) (filter-map test (cells defect3) stored) ∙ map-map first (cells defect3) (filter passes stored) in
      let to : map first (map kept_defect3.as_cells xs) ≡ map number_of xs = map-map first kept_defect3.as_cells xs in
      IsDistinct-IsPermutation same_key (turn_eq value_cmp value_cmp_total) (map rowid (filter passes stored)) (map number_of xs)
      (subst₂ IsPermutation from to (IsPermutation-map first (filter test rows) (map kept_defect3.as_cells xs) those))
      (rowids_apart (filter passes stored) (ascending-filter (λ a b. value_cmp (rowid a) (rowid b) ≡ Less) passes stored rises.up))

  -- a number is that of one row
  once : (n : ℕ) (r s : Row) → Has rows r → Has rows s → has_value 0 (Int (pos n)) r ≡ true → has_value 0 (Int (pos n)) s ≡ true → r ≡ s
  once n r s here there one two =
      let a = map_had (cells defect3) stored r here in
      let b = map_had (cells defect3) stored s there in
      let key = Int (pos n) in
      let key_of : (t : Row) → Has stored t → has_value 0 key (cells defect3 t) ≡ true → rowid t ≡ key =
      λ t has same. integer_is (rowid t) (pos n) (all_has (λ u. IsTrue (is_int (rowid u))) stored t rises.numbers has) same in
      let left : rowid a.0 ≡ key = key_of a.0 a.1 (subst (λ c. has_value 0 key c ≡ true) a.2 one) in
      let right : rowid b.0 ≡ key = key_of b.0 b.1 (subst (λ c. has_value 0 key c ≡ true) b.2 two) in
      let tied : value_cmp (rowid a.0) (rowid b.0) ≡ Equal = ap (λ v. value_cmp v (rowid b.0)) left ∙ ap (value_cmp key) right ∙ tied_itself value_cmp_total key in
      a.2 ∙ ap (cells defect3) (tied_same stored a.0 b.0 rises.up a.1 b.1 tied) ∙ sym b.2

  abbrev is_put : Row → Bool
  is_put r = list_any (λ y. is_own_defect y r) (map (found_with cycles) xs)

  passes_put : (r : Row) → Has rows r → is_put r ≡ true → test r ≡ true
  passes_put r here put =
      let it = some_has (λ y. is_own_defect y r) (map (found_with cycles) xs) put in
      let from = map_had (found_with cycles) xs it.0 it.1 in
      let row = kept_defect3.as_cells from.0 in
      let there = has_filtered test rows row (has_contained _ row (Contains-permutation (map kept_defect3.as_cells xs) (filter test rows) row (IsPermutation-sym _ _ those) (contains_had _ row (mapped_has kept_defect3.as_cells xs from.0 from.1)))) in
      let own : has_value 0 (number_of from.0) r ≡ true = subst (λ (y : Deferral3Row). is_own_defect y r ≡ true) from.2 it.2 in
      ap test (once from.0.deferral.seq r row here there.0 own (number_same from.0.deferral.seq)) ∙ there.1

  put_passes : (r : Row) → Has rows r → test r ≡ true → is_put r ≡ true
  put_passes r here passes =
      let it = map_had kept_defect3.as_cells xs r (has_contained _ r (Contains-permutation (filter test rows) (map kept_defect3.as_cells xs) r those (contains_had _ r (has_kept test rows r here passes)))) in
      let own : is_own_defect (found_with cycles it.0) r ≡ true = ap (is_own_defect (found_with cycles it.0)) it.2 ∙ number_same it.0.deferral.seq in
      some_from (λ y. is_own_defect y r) (map (found_with cycles) xs) (found_with cycles it.0) (mapped_has (found_with cycles) xs it.0 it.1) own

  -- the rows that pass are changed, where those that are found later come in place of theirs
  pub shifted_put : IsPermutation (change_where test (found_later cycles) rows) (rows_put kept_defect3 is_own_defect ys rows)
  shifted_put =
      let new = map kept_defect3.as_cells (map (found_with cycles) xs) in
      let made : map (found_later cycles) (map kept_defect3.as_cells xs) ≡ new = map-map (found_later cycles) kept_defect3.as_cells xs ∙ sym (map-map kept_defect3.as_cells (found_with cycles) xs) in
      let others : filter (λ r. not (test r)) rows ≡ filter (λ r. not (is_put r)) rows = filter_has _ _ rows (λ r here. ap not (same_test (test r) (is_put r) (put_passes r here) (passes_put r here))) in
      let parts = subst₂ (λ (l m : List Row). IsPermutation (change_where test (found_later cycles) rows) (l ++ m)) made others (where_many test (found_later cycles) rows (map kept_defect3.as_cells xs) those) in
      subst (λ (l : List Deferral3Row). IsPermutation (change_where test (found_later cycles) rows) (rows_put kept_defect3 is_own_defect l rows)) (sym are.gained.are)
      (IsPermutation-trans _ (new ++ filter (λ r. not (is_put r)) rows) _ parts (all_put kept_defect3 is_own_defect (map (found_with cycles) xs) rows (own_apart cycles xs numbers)))
