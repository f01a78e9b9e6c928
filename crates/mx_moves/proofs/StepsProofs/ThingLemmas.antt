-- A commit that moves or writes what there is of the next thing of a step: where the thing is in the book, which point is next, and what becomes of a table that loses rows or gains them.
use Rattle.std.proofs.Common.{◌≡◌, ◌∙◌, ◌<◌, ◌≤◌, ◌+◌, ◌^◌, ℕ, Bool, not, length, List, [], ◌∷◌, ◌++◌, map, filter, take, nat_le, Some, sym, ap, subst, arith}
use Rattle.std.specs.List.{AllByRecursion}
use Rattle.std.specs.List.Sorted.{IsPermutation}
use Rattle.std.proofs.lemmas.List.{map-append}
use Rattle.std.proofs.lemmas.List.Elements.{All-filter, recursion_from_All}
use Rattle.std.proofs.lemmas.List.Sorted.{IsPermutation-append_comm, IsPermutation-append_right, IsPermutation-map, IsPermutation-sym, IsPermutation-trans}
use Rattle.sqlite_keyed.proofs.ListLemmas.{filter-map, filter_same, IsPermutation-same}
use Rattle.sqlite.specs.Order.{Row}
use Rattle.mx_book.specs.commands.Act.{Entry}
use Rattle.mx_book.specs.Book.{IsBook}
use Rattle.mx_book.specs.Programme.{last_of}
use Rattle.mx_base.proofs.RowsProofs.SortedLemmas.{keys_below}
use Rattle.mx_registers.specs.points.Points.{moving_from, next_mark, next_point_to, numbers_left, numbers_of, on_to, size_of, steps_from}
use Rattle.mx_registers.proofs.PointsProofs.CommitLemmas.{numbers_rising}
use Rattle.mx_registers.proofs.PointsProofs.NextLemmas.{next_is_least, Apart}
use Rattle.mx_registers.proofs.PointsProofs.StepLemmas.{step_after_to}
use Rattle.mx_layout.specs.Point.{FitsPoint}
use Rattle.mx_layout.specs.kept.Kept.{Kept}

of_last : (P : ℕ → Type 0) (n : ℕ) (xs : List ℕ) → AllByRecursion P xs → last_of (take 1 xs) ≡ Some n → P n
of_last P n [] all h = absurd cc
of_last P n (x ∷ xs) all h = let same : x ≡ n = cc in subst P same all.0

module _ (newest layout step mark thing : ℕ) (under : layout < newest) (some : 0 < step) (last : step ≤ steps_from layout) (one : size_of step ≡ 1) (book : List Entry) (b : IsBook book) (due : next_mark (moving_from layout step mark) book ≡ Some thing) where
  abbrev numbers : List ℕ
  numbers = numbers_of layout step book

  first : last_of (take 1 (numbers_left layout step mark book)) ≡ Some thing
  first = subst (λ size. last_of (take size (numbers_left layout step mark book)) ≡ Some thing) one due

  -- it is the next behind the mark
  pub is_next : (mark < thing) × AllByRecursion (Apart mark thing) numbers
  is_next = next_is_least mark thing 1 (length book + 1) numbers (numbers_rising book b layout step) first

  -- it is one of the book
  pub in_book : thing < length book + 1
  in_book =
      let all = keys_below (λ (n : ℕ). n) 1 (length book + 1) numbers (numbers_rising book b layout step) in
      of_last (λ n. n < length book + 1) thing _ (recursion_from_All (λ n. n < length book + 1) _ (All-filter (λ n. not (nat_le n mark)) (λ n. n < length book + 1) numbers all)) first

  -- the next point on the way to a layout is that of the thing
  pub next_is : next_point_to newest (moving_from layout step mark) book ≡ moving_from layout step thing
  next_is =
      let few = b.few in
      step_after_to newest layout step mark (next_mark (moving_from layout step mark) book) under some last (omega (arith, is_next.0, in_book)) ∙ ap (on_to (moving_from layout step mark)) due

  pub point_fits : layout < 2 ^ 8 → step < 2 ^ 8 → FitsPoint (moving_from layout step thing)
  point_fits low small = let few = b.few in (low, small, omega (arith, in_book))

-- ── the rows of a table ──

module _ {X : Type 0} (k : Kept X) where
  -- those that a deletion leaves, where the book leaves these
  pub others_become : (chosen : Row → Bool) (is_of : X → Bool) → ((row : X) → chosen (k.as_cells row) ≡ is_of row) → (had left : List X) → left ≡ filter (λ row. not (is_of row)) had
      → IsPermutation (filter (λ row. not (chosen row)) (map k.as_cells had)) (map k.as_cells left)
  others_become chosen is_of told had left is = IsPermutation-same _ _
      (filter-map (λ row. not (chosen row)) k.as_cells had
      ∙ ap (map k.as_cells) (filter_same (λ row. not (chosen (k.as_cells row))) (λ row. not (is_of row)) (λ row. ap not (told row)) had ∙ sym is))

  -- those that are added in any order, where the book brings these
  pub more_become : (rows brought had all : List X) → IsPermutation rows brought → IsPermutation all (had ++ brought) → IsPermutation (map k.as_cells rows ++ map k.as_cells had) (map k.as_cells all)
  more_become rows brought had all same is =
      subst (λ l. IsPermutation l (map k.as_cells all)) (map-append k.as_cells rows had)
      (IsPermutation-map k.as_cells _ _ (IsPermutation-trans _ _ _ (IsPermutation-append_comm rows had) (IsPermutation-trans _ _ _ (IsPermutation-append_right had rows brought same) (IsPermutation-sym _ _ is))))
