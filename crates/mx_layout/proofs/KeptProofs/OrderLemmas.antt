-- Rows that were read in the order of their keys ascend by them.
use Rattle.std.proofs.Common.{◌≡◌, ℕ, suc, ◌+◌, ◌^◌, ◌<◌, ◌≤◌, pos, List, [], ◌∷◌, map, length, All, slice_index_or, false, refl, subst, arith}
use Rattle.std.specs.declared.cmp.Ordering.{Ordering}
use Rattle.std.specs.declared.cmp.Ordering.TheVariants.{Less, Equal, Greater}
use Rattle.std.specs.Ordering.{is_lt, ordering_then}
use Rattle.std.specs.List.Sorted.{IsSorted}
use Rattle.std.proofs.lemmas.Int.{ints}
use Rattle.std.proofs.lemmas.Bool.Decides.{nat_tests}
use Rattle.std.proofs.lemmas.List.Elements.{All-head, All-tail}
use Rattle.sqlite_value.proofs.OrderLemmas.{value_cmp-Int}
use Rattle.sqlite.specs.declared.types.Value.TheVariants.{Int}
use Rattle.sqlite.specs.Order.{Row, column, value_cmp}
use Rattle.mx_base.specs.rows.Rising.{IsFrom}
use Rattle.mx_base.specs.rows.Rows.{line_key}
use Rattle.mx_layout.specs.Reading.{by_first, by_two, by_four}
use Rattle.mx_layout.specs.kept.Kept.{Kept}

equals : (a b : ℕ) → value_cmp (Int (pos a)) (Int (pos b)) ≡ Equal → a ≡ b
equals a b h = let e = value_cmp-Int (pos a) (pos b) in grind (arith, ints, nat_tests)

greater : (a b : ℕ) → value_cmp (Int (pos a)) (Int (pos b)) ≡ Greater → b < a
greater a b h = let e = value_cmp-Int (pos a) (pos b) in grind (arith, ints, nat_tests)

not_less : (a b : ℕ) → is_lt (value_cmp (Int (pos b)) (Int (pos a))) ≡ false → a ≤ b
not_less a b h = let e = value_cmp-Int (pos b) (pos a) in grind (arith, ints, nat_tests)

-- of two keys, by the order of their first parts
pub by_parts : (a b c d : ℕ) → b < 2 ^ 32 → (o : Ordering) → value_cmp (Int (pos c)) (Int (pos a)) ≡ o → is_lt (ordering_then o (value_cmp (Int (pos d)) (Int (pos b)))) ≡ false → line_key a b ≤ line_key c d
by_parts a b c d low Less e h = absurd cc
by_parts a b c d low Equal e h = let same = equals c a e in let up = not_less b d h in omega arith
by_parts a b c d low Greater e h = let above = greater c a e in omega arith

module _ {X : Type 0} (as_cells : X → Row) (Fits : X → Type 0) (order : Row → Row → Ordering) (key : X → ℕ)
    (step : (x y : X) → Fits x → is_lt (order (as_cells y) (as_cells x)) ≡ false → key x ≤ key y) where
  ascend_from : (low : ℕ) (rows : List X) → All Fits rows → ((d : X) → 0 < length rows → low ≤ key (slice_index_or rows 0 d)) → IsSorted order (map as_cells rows) → IsFrom key low rows
  ascend_from low [] fits bound sorted = tt
  ascend_from low (x ∷ []) fits bound sorted = (bound x (omega arith), tt)
  ascend_from low (x ∷ y ∷ more) fits bound sorted = (
    bound x (omega arith),
    ascend_from (key x) (y ∷ more) (All-tail Fits x (y ∷ more) fits)
        (λ d _. step x y (All-head Fits x (y ∷ more) fits) (sorted 0 [] (omega arith) (omega arith)))
        (λ k d low high.
        let more_one : suc k + 1 ≡ suc (k + 1) = omega arith in
        let all = map as_cells (x ∷ y ∷ more) in
        subst (λ n. is_lt (order (slice_index_or all n d) (slice_index_or all (suc k) d)) ≡ false) more_one (sorted (suc k) d (omega arith) (omega arith))),
  )

  pub ascends : (rows : List X) → All Fits rows → IsSorted order (map as_cells rows) → IsFrom key 0 rows
  ascends rows fits sorted = ascend_from 0 rows fits (λ d _. omega arith) sorted

-- in the order of the first column
pub first_ascends : {X : Type 0} (as_cells : X → Row) (Fits : X → Type 0) (key : X → ℕ) → ((x : X) → column (as_cells x) 0 ≡ Int (pos (key x))) → (rows : List X) → All Fits rows → IsSorted by_first (map as_cells rows) → IsFrom key 0 rows
first_ascends as_cells Fits key first = ascends as_cells Fits by_first key (λ x y _ h. not_less (key x) (key y) (rw (first y, first x) at h))

-- in the order of the first two columns
pub two_ascend : {X : Type 0} (k : Kept X) (one two : X → ℕ) → ((x : X) → column (k.as_cells x) 0 ≡ Int (pos (one x))) → ((x : X) → column (k.as_cells x) 1 ≡ Int (pos (two x)))
    → ((x : X) → k.key x ≡ line_key (one x) (two x)) → ((x : X) → k.Fits x → two x < 2 ^ 32) → (rows : List X) → All k.Fits rows → IsSorted by_two (map k.as_cells rows) → IsFrom k.key 0 rows
two_ascend k one two first second is low =
    ascends k.as_cells k.Fits by_two k.key (λ x y fits h.
    let e = is x in let e' = is y in
    let up = by_parts (one x) (two x) (one y) (two y) (low x fits) _ refl (rw (first y, first x, second y, second x) at h) in omega (arith, e, e', up))

-- by the first part alone, whatever the second is
not_less_first : (a b : ℕ) (o : Ordering) → is_lt (ordering_then (value_cmp (Int (pos b)) (Int (pos a))) o) ≡ false → a ≤ b
not_less_first a b o h = by_order (value_cmp (Int (pos b)) (Int (pos a))) refl h
  where
    by_order : (first : Ordering) → value_cmp (Int (pos b)) (Int (pos a)) ≡ first → is_lt (ordering_then first o) ≡ false → a ≤ b
    by_order Less e k = absurd cc
    by_order Equal e k = let same = equals b a e in omega arith
    by_order Greater e k = let above = greater b a e in omega arith

-- in the order of the first two columns, by the first alone
pub first_part_ascends : {X : Type 0} (k : Kept X) → ((x : X) → column (k.as_cells x) 0 ≡ Int (pos (k.key x))) → (rows : List X) → All k.Fits rows → IsSorted by_two (map k.as_cells rows) → IsFrom k.key 0 rows
first_part_ascends k first = ascends k.as_cells k.Fits by_two k.key (λ x y _ h. not_less_first (k.key x) (k.key y) _ (rw (first y, first x) at h))

-- in the order of the first four columns, by the first alone
pub first_of_four_ascends : {X : Type 0} (k : Kept X) → ((x : X) → column (k.as_cells x) 0 ≡ Int (pos (k.key x))) → (rows : List X) → All k.Fits rows → IsSorted by_four (map k.as_cells rows) → IsFrom k.key 0 rows
first_of_four_ascends k first = ascends k.as_cells k.Fits by_four k.key (λ x y _ h. not_less_first (k.key x) (k.key y) _ (rw (first y, first x) at h))
