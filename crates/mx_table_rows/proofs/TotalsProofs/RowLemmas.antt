-- Rows that are chosen, changed and put in another order.
use Rattle.std.proofs.Common.{◌≡◌, inl, inr, ℕ, pos, Bool, true, false, cond, ◌&&◌, not, List, [], ◌∷◌, ◌++◌, map, filter, refl, sym, ap, subst, ◌∙◌, arith}
use Rattle.std.specs.Prelude.{if◌then◌else◌}
use Rattle.std.specs.List.Sorted.{IsPermutation}
use Rattle.std.proofs.lemmas.Bool.{cases_Bool, eqb-true}
use Rattle.std.proofs.lemmas.List.{map-append}
use Rattle.std.proofs.lemmas.List.Sorted.{IsPermutation-map, IsPermutation-sym, IsPermutation-trans, IsPermutation-append_left, IsPermutation-filter_both, Contains-permutation, length_permutation}
use Rattle.sqlite_rules.proofs.ListLemmas.{has_filtered, has_contained, contains_had}
use Rattle.sqlite_rules.specs.Lists.{Has}
use Rattle.sqlite.specs.Order.{Row}
use Rattle.sqlite.specs.declared.types.Value.TheVariants.{Int}
use Rattle.sqlite.specs.Collation.TheVariants.{Binary}
use Rattle.sqlite_schema.specs.Rules.{equal}
use Rattle.mx_table_rows.proofs.ChosenProofs.EqualLemmas.{equal_numbers}
use Rattle.mx_table_rows.specs.totals.Calls.{change_where}

module _ {X : Type 0} where
  -- a list that is one element in another order is that element
  pub permutation_one : (xs : List X) (x : X) → IsPermutation xs (x ∷ []) → xs ≡ x ∷ []
  permutation_one [] x same = absurd (omega (arith, length_permutation [] (x ∷ []) same))
  permutation_one (y ∷ []) x same =
      elim (has_contained (y ∷ []) x (Contains-permutation (x ∷ []) (y ∷ []) x (IsPermutation-sym (y ∷ []) (x ∷ []) same) (contains_had (x ∷ []) x (inl refl)))) [
        | inl here ↦ ap (λ z. z ∷ []) (sym here)
        | inr none ↦ absurd none
      ]
  permutation_one (y ∷ z ∷ ys) x same = absurd (omega (arith, length_permutation (y ∷ z ∷ ys) (x ∷ []) same))

  pub permutation_none : (xs : List X) → IsPermutation xs [] → xs ≡ []
  permutation_none [] same = refl
  permutation_none (x ∷ xs) same = absurd (omega (arith, length_permutation (x ∷ xs) [] same))

  -- the one element that passes does pass
  pub passes_only : (p : X → Bool) (xs : List X) (x : X) → filter p xs ≡ x ∷ [] → p x ≡ true
  passes_only p xs x only = (has_filtered p xs x (subst (λ l. Has l x) (sym only) (inl refl))).1

  -- the one element that passes stands before the others
  pub split_one : (p : X → Bool) (xs : List X) (x : X) → filter p xs ≡ x ∷ [] → IsPermutation xs (x ∷ filter (λ y. not (p y)) xs)
  split_one p xs x only = subst (λ l. IsPermutation xs (l ++ filter (λ y. not (p y)) xs)) only (IsPermutation-filter_both p (λ y. not (p y)) (λ _. refl) xs)

  -- two tests, in either order
  pub filter_either : (p q : X → Bool) (xs : List X) → filter p (filter q xs) ≡ filter q (filter p xs)
  filter_either p q [] = refl
  filter_either p q (x ∷ xs) = elim (cases_Bool (p x)) [
    | inl a ↦ elim (cases_Bool (q x)) [ inl b ↦ simp (a, b) (ap (λ l. x ∷ l) (filter_either p q xs)) | inr b ↦ simp (a, b) (filter_either p q xs) ]
    | inr a ↦ elim (cases_Bool (q x)) [ inl b ↦ simp (a, b) (filter_either p q xs) | inr b ↦ simp (a, b) (filter_either p q xs) ]
  ]

  -- a test of elements that fail another
  pub same_else : (p : X → Bool) (f g : X → X) → ((x : X) → p x ≡ false → f x ≡ g x) → (xs : List X) → map f (filter (λ x. not (p x)) xs) ≡ map g (filter (λ x. not (p x)) xs)
  same_else p f g same [] = refl
  same_else p f g same (x ∷ xs) = elim (cases_Bool (p x)) [
    | inl a ↦ simp a (same_else p f g same xs)
    | inr a ↦ simp a (let first = same x a in let rest = same_else p f g same xs in cc)
  ]

  -- and of elements that pass it
  pub same_where : (p : X → Bool) (f g : X → X) → ((x : X) → p x ≡ true → f x ≡ g x) → (xs : List X) → map f (filter p xs) ≡ map g (filter p xs)
  same_where p f g same [] = refl
  same_where p f g same (x ∷ xs) = elim (cases_Bool (p x)) [
    | inl a ↦ simp a (let first = same x a in let rest = same_where p f g same xs in cc)
    | inr a ↦ simp a (same_where p f g same xs)
  ]

  -- one test after another is both
  pub both_in : (p q : X → Bool) (xs : List X) → filter q (filter p xs) ≡ filter (λ x. p x && q x) xs
  both_in p q [] = refl
  both_in p q (x ∷ xs) = elim (cases_Bool (p x)) [
    | inl a ↦ simp a (ap (λ l. cond (q x) (x ∷ l) l) (both_in p q xs))
    | inr a ↦ simp a (both_in p q xs)
  ]

  pub map_same : (xs : List X) → map (λ x. x) xs ≡ xs
  map_same [] = refl
  map_same (x ∷ xs) = ap (λ l. x ∷ l) (map_same xs)

-- the rows that pass, where that is one, are changed
pub where_one : (test : Row → Bool) (change : Row → Row) (rows : List Row) (row : Row) → filter test rows ≡ row ∷ [] → IsPermutation (change_where test change rows) (change row ∷ filter (λ r. not (test r)) rows)
where_one test change rows row only =
    let made = λ (r : Row). if test r then change r else r in
    let first : made row ≡ change row = ap (λ b. if b then change row else row) (passes_only test rows row only) in
    let rest : map made (filter (λ r. not (test r)) rows) ≡ filter (λ r. not (test r)) rows = same_else test made (λ r. r) (λ r fails. ap (λ b. if b then change r else r) fails) rows ∙ map_same _ in
    subst (λ l. IsPermutation (map made rows) l) (ap (λ r. r ∷ map made (filter (λ y. not (test y)) rows)) first ∙ ap (λ l. change row ∷ l) rest)
    (IsPermutation-map made rows (row ∷ filter (λ r. not (test r)) rows) (split_one test rows row only))

-- the rows that pass are changed
pub where_many : (test : Row → Bool) (change : Row → Row) (rows those : List Row) → IsPermutation (filter test rows) those → IsPermutation (change_where test change rows) (map change those ++ filter (λ r. not (test r)) rows)
where_many test change rows those same =
    let made = λ (r : Row). if test r then change r else r in
    let others = filter (λ r. not (test r)) rows in
    let first : map made (filter test rows) ≡ map change (filter test rows) = same_where test made change (λ r passes. ap (λ b. if b then change r else r) passes) rows in
    let rest : map made others ≡ others = same_else test made (λ r. r) (λ r fails. ap (λ b. if b then change r else r) fails) rows ∙ map_same _ in
    let parts : map made (filter test rows ++ others) ≡ map change (filter test rows) ++ others = map-append made (filter test rows) others ∙ ap (λ l. l ++ map made others) first ∙ ap (λ l. map change (filter test rows) ++ l) rest in
    IsPermutation-trans (map made rows) (map change (filter test rows) ++ others) (map change those ++ others)
    (subst (IsPermutation (map made rows)) parts (IsPermutation-map made rows (filter test rows ++ others) (IsPermutation-filter_both test (λ r. not (test r)) (λ _. refl) rows)))
    (IsPermutation-append_left others (map change (filter test rows)) (map change those) (IsPermutation-map change (filter test rows) those same))

-- numbers that SQL finds equal
pub number_is : (n m : ℕ) → equal Binary (Int (pos n)) (Int (pos m)) ≡ true → n ≡ m
number_is n m same = eqb-true n m (sym (equal_numbers n m) ∙ same)
