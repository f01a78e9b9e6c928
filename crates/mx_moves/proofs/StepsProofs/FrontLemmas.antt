-- The rows of a table up to the last of its first rows are these, whatever rows the table has.
use Rattle.std.proofs.Common.{◌≡◌, ◌≤◌, ◌<◌, ℕ, suc, ℤ, pos, Bool, true, false, cond, List, [], ◌∷◌, ◌++◌, map, filter, take, drop, Some, IsTrue, refl, sym, ap, ap₂, subst, ◌∙◌, arith}
use Rattle.std.specs.List.{AllByRecursion}
use Rattle.std.specs.List.Sorted.{IsPermutation}
use Rattle.std.specs.Ordering.{int_cmp}
use Rattle.std.specs.declared.cmp.Ordering.TheVariants.{Less}
use Rattle.std.proofs.lemmas.Bool.Decides.{nat_tests}
use Rattle.std.proofs.lemmas.Cmp.{on_total}
use Rattle.std.proofs.lemmas.Int.{ints}
use Rattle.std.proofs.lemmas.List.{take-append-drop}
use Rattle.std.proofs.lemmas.List.Elements.{All-drop, All-from_recursion, recursion_from_All}
use Rattle.sqlite.specs.declared.types.Value.{Value}
use Rattle.sqlite.specs.declared.types.Value.TheVariants.{Null, Int, Real, Text, Blob}
use Rattle.sqlite.specs.Order.{Row, column, value_cmp}
use Rattle.sqlite.specs.Table.{Table}
use Rattle.sqlite.specs.Tree.{Trees, rowid}
use Rattle.sqlite.specs.View.{is_int}
use Rattle.sqlite_keyed.proofs.ListLemmas.{all_map, all_weaker, ascending_weaker, ascending-map, filter_none}
use Rattle.sqlite_keyed.proofs.SortLemmas.{sorted_unique}
use Rattle.sqlite_sql.specs.declared.ops.CompareOp.TheVariants.{Le}
use Rattle.sqlite_trees.specs.Tree.{IsAscending}
use Rattle.sqlite_typed.proofs.TestLemmas.{at_ints, int_test}
use Rattle.sqlite_value.proofs.OrderLemmas.{value_cmp-Int, value_cmp_total}
use Rattle.mx_registers.specs.points.Moves.{last_moved}
use Rattle.mx_registers.proofs.PointsProofs.OneBook.{all_there}
use Rattle.mx_layout.specs.Contents.{cells, rows_in, Rises}
use Rattle.mx_layout.specs.Reading.{by_first}
use Rattle.mx_table_rows.specs.chosen.Choices.{AreFirst, is_any, is_up_to}

-- ── numbers ──

abbrev up_to : ℕ → Row → Bool
up_to n = is_up_to 0 (Int (pos n))

-- the row has a number in its first column
abbrev IsNumbered : Row → Type 0
IsNumbered row = IsTrue (is_int (column row 0))

abbrev Below : Row → Row → Type 0
Below a b = by_first a b ≡ Less

above_int : (n : ℕ) (z : ℤ) → int_cmp (pos n) z ≡ Less → int_test Le z (pos n) ≡ false
above_int n z h = grind (arith, ints, nat_tests)

below_nat : (n m : ℕ) → int_cmp (pos n) (pos m) ≡ Less → n < m
below_nat n m h = grind (arith, ints, nat_tests)

-- a number above n is not up to n
not_up_to : (n : ℕ) (row : Row) (v : Value) → column row 0 ≡ v → IsTrue (is_int v) → value_cmp (Int (pos n)) v ≡ Less → up_to n row ≡ false
not_up_to n row Null is whole h = absurd cc
not_up_to n row (Int z) is whole h = rw is (at_ints false Le z (pos n) ∙ above_int n z (sym (value_cmp-Int (pos n) z) ∙ h))
not_up_to n row (Real x) is whole h = absurd cc
not_up_to n row (Text t) is whole h = absurd cc
not_up_to n row (Blob b) is whole h = absurd cc

is_up_to_number : (n m : ℕ) (row : Row) → column row 0 ≡ Int (pos m) → m ≤ n → up_to n row ≡ true
is_up_to_number n m row is low = rw is (at_ints false Le (pos m) (pos n) ∙ grind (arith, ints, nat_tests))

module _ {X : Type 0} (seq : X → ℕ) (as_cells : X → Row) (first : (x : X) → column (as_cells x) 0 ≡ Int (pos (seq x))) where
  -- ── rows that rise ──

  next_above : (x y : X) → Below (as_cells x) (as_cells y) → seq x < seq y
  next_above x y h = below_nat (seq x) (seq y) (sym (value_cmp-Int (pos (seq x)) (pos (seq y))) ∙ sym (ap₂ value_cmp (first x) (first y)) ∙ h)

  -- the last of rows behind one has no lower number
  last_above : (x : X) (mark : ℕ) (xs : List X) (more : List Row) → seq x ≤ mark → AllByRecursion (Below (as_cells x)) (map as_cells xs ++ more) → seq x ≤ last_moved seq mark xs
  last_above x mark [] more h all = h
  last_above x mark (y ∷ ys) more h all = let up = next_above x y all.0 in last_above x (seq y) ys more (omega arith) all.1

  none_more : (x : X) (more : List Row) → AllByRecursion (Below (as_cells x)) more → AllByRecursion IsNumbered more → AllByRecursion (λ row. up_to (seq x) row ≡ false) more
  none_more x [] above whole = tt
  none_more x (row ∷ more) above whole =
      (not_up_to (seq x) row (column row 0) refl whole.0 (ap (λ v. value_cmp v (column row 0)) (sym (first x)) ∙ above.0), none_more x more above.1 whole.1)

  -- of rows that rise, those up to the last of the first are the first
  first_up_to : (mark : ℕ) (x : X) (xs : List X) (more : List Row) → IsAscending Below (map as_cells (x ∷ xs) ++ more) → AllByRecursion IsNumbered more
      → filter (up_to (last_moved seq mark (x ∷ xs))) (map as_cells (x ∷ xs) ++ more) ≡ map as_cells (x ∷ xs)
  first_up_to mark x [] more up whole =
      let rest = filter_none (up_to (seq x)) more (none_more x more up.0 whole) in
      ap₂ (λ b l. cond b (as_cells x ∷ l) l) (is_up_to_number (seq x) (seq x) (as_cells x) (first x) (omega arith)) rest
  first_up_to mark x (y ∷ ys) more up whole =
      let last = last_moved seq (seq y) ys in
      let low = last_above x (seq x) (y ∷ ys) more (omega arith) up.0 in
      ap₂ (λ b l. cond b (as_cells x ∷ l) l) (is_up_to_number last (seq x) (as_cells x) (first x) low) (first_up_to (seq x) y ys more up.1 whole)

  up_to_last : (mark : ℕ) (xs : List X) (all more : List Row) → all ≡ map as_cells xs ++ more → (xs ≡ [] → more ≡ []) → IsAscending Below all → AllByRecursion IsNumbered more → filter (up_to (last_moved seq mark xs)) all ≡ map as_cells xs
  up_to_last mark [] all more is none up whole = ap (filter (up_to mark)) (is ∙ none refl)
  up_to_last mark (x ∷ xs) all more is none up whole = ap (filter (up_to (last_moved seq mark (x ∷ xs)))) is ∙ first_up_to mark x xs more (subst (IsAscending Below) is up) whole

  none_behind : (most : ℕ) (rows : List X) (stored : List Row) → rows ≡ [] → map as_cells rows ≡ take (suc most) stored → drop (suc most) stored ≡ []
  none_behind most rows [] none shown = refl
  none_behind most [] (r ∷ stored) none shown = absurd cc
  none_behind most (x ∷ rows) (r ∷ stored) none shown = absurd cc

  -- ── the first rows of a table ──

  module _ (t : Table) (keyed : (r : Row) → column (cells t r) 0 ≡ rowid r) where
    -- they are all that the table has up to the number of the last of them
    pub front_is : (most mark : ℕ) (trees : Trees) (rows : List X) → Rises t trees → AreFirst (Some (suc most)) by_first t is_any trees (map as_cells rows)
        → filter (is_up_to 0 (Int (pos (last_moved seq mark rows)))) (rows_in t trees) ≡ map as_cells rows
    front_is most mark trees rows rises page =
        let stored = rows_in t trees in
        let more = drop (suc most) stored in
        let up : IsAscending Below stored = ascending-map Below (cells t) (trees t.tree) (ascending_weaker _ _ (λ a b h. ap₂ value_cmp (keyed a) (keyed b) ∙ h) (trees t.tree) rises.up) in
        let numbers : AllByRecursion IsNumbered stored = all_map IsNumbered (cells t) (trees t.tree) (all_weaker _ _ (λ r h. subst (λ v. IsTrue (is_int v)) (sym (keyed r)) h) (trees t.tree) rises.numbers) in
        let same : page.those ≡ stored = sorted_unique by_first (on_total (λ r. column r 0) value_cmp_total) stored page.those up (subst (λ l. IsPermutation l page.those) (all_there stored) page.are.all) page.are.sorted in
        let shown : map as_cells rows ≡ take (suc most) stored = page.first ∙ ap (take (suc most)) same in
        up_to_last mark rows stored more (sym (take-append-drop (suc most) stored) ∙ ap (λ l. l ++ more) (sym shown)) (λ none. none_behind most rows stored none shown) up
        (recursion_from_All IsNumbered more (All-drop IsNumbered (suc most) stored (All-from_recursion IsNumbered stored numbers)))
