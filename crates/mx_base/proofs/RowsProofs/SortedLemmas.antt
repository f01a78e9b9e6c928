-- Two orders of the same rows with distinct keys are one list.
use Rattle.std.proofs.Common.{◌≡◌, ◌⊎◌, inl, inr, ℕ, ◌+◌, ◌≤◌, ◌<◌, ◌==◌, cond, List, [], ◌∷◌, length, map, suc, slice_index_or, All, refl, sym, ap, subst, ◌∙◌, arith}
use Rattle.std.specs.List.{sum_by, AllAdjacentBelow, AllByRecursion}
use Rattle.std.specs.List.Sorted.{IsPermutation}
use Rattle.std.proofs.lemmas.List.Sorted.{All-permutation, sum_by-IsPermutation}
use Rattle.std.proofs.lemmas.List.Elements.{All-cons, All-nil, All-weaker, recursion_from_All}
use Rattle.std.proofs.lemmas.List.Sums.{sum_by-cons}
use Rattle.std.proofs.lemmas.Bool.Decides.{nat_tests}
use Rattle.mx_base.specs.rows.Rising.{IsRising, IsFrom}

module _ {Row : Type 0} (key : Row → ℕ) where
  -- 1 for a row with this key, else 0
  abbrev at_key : ℕ → Row → ℕ
  at_key k x = cond (key x == k) 1 0

  abbrev IsIn : Row → List Row → Type 0
  IsIn z [] = ⊥
  IsIn z (x ∷ xs) = (z ≡ x) ⊎ IsIn z xs

  all_in : (xs : List Row) → All (λ z. IsIn z xs) xs
  all_in [] = All-nil (λ z. IsIn z [])
  all_in (x ∷ xs) = All-cons (λ z. IsIn z (x ∷ xs)) x xs (inl refl) (All-weaker (λ z. IsIn z xs) (λ z. IsIn z (x ∷ xs)) (λ z h. inr h) xs (all_in xs))

  above : (low high : ℕ) (xs : List Row) (z : Row) → IsRising key low xs high → IsIn z xs → low ≤ key z
  above low high [] z up h = absurd h
  above low high (x ∷ xs) z up (inl e) = let k = ap key e in omega arith
  above low high (x ∷ xs) z up (inr h) = let k = above (key x + 1) high xs z up.1 h in omega arith

  -- in a rising list a key belongs to one row
  one_row : (low high : ℕ) (xs : List Row) (a b : Row) → IsRising key low xs high → IsIn a xs → IsIn b xs → key a ≡ key b → a ≡ b
  one_row low high [] a b up h g same = absurd h
  one_row low high (x ∷ xs) a b up (inl e) (inl f) same = e ∙ sym f
  one_row low high (x ∷ xs) a b up (inl e) (inr g) same = let k = above (key x + 1) high xs b up.1 g in let j = ap key e in absurd (omega arith)
  one_row low high (x ∷ xs) a b up (inr h) (inl f) same = let k = above (key x + 1) high xs a up.1 h in let j = ap key f in absurd (omega arith)
  one_row low high (x ∷ xs) a b up (inr h) (inr g) same = one_row (key x + 1) high xs a b up.1 h g same

  other_key : (k : ℕ) (x : Row) → k < key x → at_key k x ≡ 0
  other_key k x h = grind (arith, nat_tests)

  this_key : (x : Row) → at_key (key x) x ≡ 1
  this_key x = grind (arith, nat_tests)

  -- a key that is less than those of a list stands in none of its rows
  none_from : (low k : ℕ) (xs : List Row) → IsFrom key low xs → k < low → sum_by (at_key k) xs ≡ 0
  none_from low k [] up h = refl
  none_from low k (x ∷ xs) up h = let one = other_key k x (omega arith) in let rest = none_from (key x) k xs up.1 (omega arith) in let sum = sum_by-cons (at_key k) x xs in omega arith

  none_rising : (low high k : ℕ) (xs : List Row) → IsRising key low xs high → k < low → sum_by (at_key k) xs ≡ 0
  none_rising low high k [] up h = refl
  none_rising low high k (x ∷ xs) up h = let one = other_key k x (omega arith) in let rest = none_rising (key x + 1) high k xs up.1 (omega arith) in let sum = sum_by-cons (at_key k) x xs in omega arith

  module _ (P : Row → Type 0) (ident : (a b : Row) → P a → P b → key a ≡ key b → a ≡ b) where
    by_sums : (low from high : ℕ) (xs ys : List Row) → IsRising key low xs high → IsFrom key from ys → AllByRecursion P xs → AllByRecursion P ys
        → ((f : Row → ℕ) → sum_by f xs ≡ sum_by f ys) → xs ≡ ys
    by_sums low from high [] [] up slow p q sums = refl
    by_sums low from high [] (y ∷ ys) up slow p q sums = absurd (let e = sums (λ _. 1) in let s = sum_by-cons (λ _. 1) y ys in omega arith)
    by_sums low from high (x ∷ xs) [] up slow p q sums = absurd (let e = sums (λ _. 1) in let s = sum_by-cons (λ _. 1) x xs in omega arith)
    by_sums low from high (x ∷ xs) (y ∷ ys) up slow p q sums =
        let at_x : at_key (key x) x + sum_by (at_key (key x)) xs ≡ at_key (key x) y + sum_by (at_key (key x)) ys = sym (sum_by-cons (at_key (key x)) x xs) ∙ sums (at_key (key x)) ∙ sum_by-cons (at_key (key x)) y ys in
        let at_y : at_key (key y) x + sum_by (at_key (key y)) xs ≡ at_key (key y) y + sum_by (at_key (key y)) ys = sym (sum_by-cons (at_key (key y)) x xs) ∙ sums (at_key (key y)) ∙ sum_by-cons (at_key (key y)) y ys in
        let no_less : ¬ (key x < key y) = λ h. let a = other_key (key x) y h in let b = none_from (key y) (key x) ys slow.1 h in let c = this_key x in omega (arith, a, b, c, at_x) in
        let no_more : ¬ (key y < key x) = λ h. let a = other_key (key y) x h in let b = none_rising (key x + 1) high (key y) xs up.1 (omega arith) in let c = this_key y in omega (arith, a, b, c, at_y) in
        let keys : key x ≡ key y = omega arith in
        let same : x ≡ y = ident x y p.0 q.0 keys in
        let later = by_sums (key x + 1) (key y) high xs ys up.1 slow.1 p.1 q.1 (λ f. let e = sums f in let g = ap f same in let s = sum_by-cons f x xs in let t = sum_by-cons f y ys in omega arith) in
        ap (λ z. z ∷ xs) same ∙ ap (λ zs. y ∷ zs) later

  -- a list in the order of its keys that has the rows of a rising one is that one
  pub sorted_once : (low from high : ℕ) (xs ys : List Row) → IsRising key low xs high → IsFrom key from ys → IsPermutation xs ys → xs ≡ ys
  sorted_once low from high xs ys up slow perm =
      by_sums (λ z. IsIn z xs) (λ a b. one_row low high xs a b up) low from high xs ys up slow (recursion_from_All (λ z. IsIn z xs) xs (all_in xs))
      (recursion_from_All (λ z. IsIn z xs) ys (All-permutation (λ z. IsIn z xs) xs ys perm (all_in xs))) (λ f. sym (sum_by-IsPermutation f xs ys perm))

-- lists that have one image are one, where no two rows have one
pub map_once : {X Y : Type 0} (f : X → Y) → ((a b : X) → f a ≡ f b → a ≡ b) → (xs ys : List X) → map f xs ≡ map f ys → xs ≡ ys
map_once f once [] [] e = refl
map_once f once [] (y ∷ ys) e = (cc)
map_once f once (x ∷ xs) [] e = (cc)
map_once f once (x ∷ xs) (y ∷ ys) e =
    let head : f x ≡ f y = cc in
    let tail : map f xs ≡ map f ys = cc in
    ap (λ z. z ∷ xs) (once x y head) ∙ ap (λ zs. y ∷ zs) (map_once f once xs ys tail)

-- an image with the same keys rises too
pub IsRising-map : {X Y : Type 0} (f : X → Y) (key : X → ℕ) (row_key : Y → ℕ) → ((x : X) → key x ≡ row_key (f x)) → (low high : ℕ) (xs : List X) → IsRising key low xs high → IsRising row_key low (map f xs) high
IsRising-map f key row_key same low high [] up = up
IsRising-map f key row_key same low high (x ∷ xs) up =
    (let e = same x in omega arith, IsRising-map f key row_key same (row_key (f x) + 1) high xs (subst (λ n. IsRising key (n + 1) xs high) (same x) up.1))

-- an image with the same keys is in their order too
pub IsFrom-map : {X Y : Type 0} (f : X → Y) (key : X → ℕ) (row_key : Y → ℕ) → ((x : X) → key x ≡ row_key (f x)) → (low : ℕ) (xs : List X) → IsFrom key low xs → IsFrom row_key low (map f xs)
IsFrom-map f key row_key same low [] up = up
IsFrom-map f key row_key same low (x ∷ xs) up = (let e = same x in omega arith, IsFrom-map f key row_key same (row_key (f x)) xs (subst (λ n. IsFrom key n xs) (same x) up.1))

IsFrom-weaker : {X : Type 0} (key : X → ℕ) (low more : ℕ) (xs : List X) → low ≤ more → IsFrom key more xs → IsFrom key low xs
IsFrom-weaker key low more [] h up = tt
IsFrom-weaker key low more (x ∷ xs) h up = (omega arith, up.1)

-- a list that rises is in the order of its keys
pub IsFrom-rising : {X : Type 0} (key : X → ℕ) (low high : ℕ) (xs : List X) → IsRising key low xs high → IsFrom key low xs
IsFrom-rising key low high [] up = tt
IsFrom-rising key low high (x ∷ xs) up = (up.0, IsFrom-weaker key (key x) (key x + 1) xs (omega arith) (IsFrom-rising key (key x + 1) high xs up.1))

low_to_high : {X : Type 0} (key : X → ℕ) (low high : ℕ) (xs : List X) → IsRising key low xs high → low ≤ high
low_to_high key low high [] up = up
low_to_high key low high (x ∷ xs) up = let h = low_to_high key (key x + 1) high xs up.1 in omega arith

-- in a list that rises below a number every key is less
pub keys_below : {X : Type 0} (key : X → ℕ) (low high : ℕ) (xs : List X) → IsRising key low xs high → All (λ x. key x < high) xs
keys_below key low high [] up = All-nil (λ x. key x < high)
keys_below key low high (x ∷ xs) up =
    let less : key x < high = let h = low_to_high key (key x + 1) high xs up.1 in omega arith in
    All-cons (λ y. key y < high) x xs less (keys_below key (key x + 1) high xs up.1)

-- a list in which no key is less than the one before it is in the order of its keys
pub IsFrom-adjacent : {X : Type 0} (key : X → ℕ) (low : ℕ) (xs : List X) → ((d : X) → 0 < length xs → low ≤ key (slice_index_or xs 0 d)) → AllAdjacentBelow (λ a b. key a ≤ key b) xs (length xs) → IsFrom key low xs
IsFrom-adjacent key low [] bound up = tt
IsFrom-adjacent key low (x ∷ []) bound up = (bound x (omega arith), tt)
IsFrom-adjacent key low (x ∷ y ∷ xs) bound up = (
  bound x (omega arith),
  IsFrom-adjacent key (key x) (y ∷ xs) (λ d _. up 0 d (omega arith))
      (λ k d high.
      let one : suc k + 1 ≡ suc (k + 1) = omega arith in
      let all = x ∷ y ∷ xs in
      subst (λ n. key (slice_index_or all (suc k) d) ≤ key (slice_index_or all n d)) one (up (suc k) d (omega arith))),
)
