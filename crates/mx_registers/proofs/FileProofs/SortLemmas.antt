-- Sorted rows are in the order of their key.
use Rattle.std.proofs.Common.{ℕ, suc, ◌≤◌, List, [], ◌∷◌, arith}
use Rattle.std.specs.List.Sorted.{IsNonDecreasingBy}
use Rattle.mx_base.specs.rows.Rising.{IsFrom}

module _ {Row : Type 0} (key : Row → ℕ) where
  from_first : (low : ℕ) (row : Row) (rows : List Row) → low ≤ key row → IsNonDecreasingBy key (row ∷ rows) → IsFrom key low (row ∷ rows)
  from_first low row [] h sorted = (h, tt)
  from_first low row (next ∷ rows) h sorted =
      (h, from_first (key row) next rows (sorted 0 1 row (omega arith) (omega arith)) (λ i j d le lt. sorted (suc i) (suc j) d (omega arith) (omega arith)))

  pub from_sorted : (rows : List Row) → IsNonDecreasingBy key rows → IsFrom key 0 rows
  from_sorted [] sorted = tt
  from_sorted (row ∷ rows) sorted = from_first 0 row rows (omega arith) sorted
