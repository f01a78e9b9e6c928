-- Sums of a number over those of a list that pass tests.
use Rattle.std.proofs.Common.{arith, refl, ap, ◌∙◌, ◌≡◌, ℕ, ◌+◌, ◌-◌, ◌≤◌, List, [], ◌∷◌, Bool, true, false, cond, not, ◌&&◌, ◌||◌}
use Rattle.std.specs.Prelude.{IsPermutation, filter, map, sum_by}
use Rattle.std.specs.List.{AllByRecursion}
use Rattle.std.proofs.lemmas.List.Sorted.{sum_by-IsPermutation}
use Rattle.std.proofs.lemmas.List.Sums.{sum_by-cons}

-- the sum of a number over a list
abbrev pub weigh : {X : Type 0} → (X → ℕ) → List X → ℕ
weigh of [] = 0
weigh of (x ∷ xs) = of x + weigh of xs

module _ {X : Type 0} (of : X → ℕ) where
  -- of those that pass one of two tests, which none passes both of
  pub either_weighed : (a b : X → Bool) (xs : List X) → AllByRecursion (λ s. a s ≡ true → b s ≡ false) xs → weigh of (filter (λ s. a s || b s) xs) ≡ weigh of (filter a xs) + weigh of (filter b xs)
  either_weighed a b [] h = refl
  either_weighed a b (s ∷ xs) h = at (a s) (b s) h.0 (either_weighed a b xs h.1)
    where
      at : (p q : Bool) → (p ≡ true → q ≡ false) → weigh of (filter (λ s. a s || b s) xs) ≡ weigh of (filter a xs) + weigh of (filter b xs)
          → weigh of (cond (p || q) (s ∷ filter (λ s. a s || b s) xs) (filter (λ s. a s || b s) xs)) ≡ weigh of (cond p (s ∷ filter a xs) (filter a xs)) + weigh of (cond q (s ∷ filter b xs) (filter b xs))
      at true true h rest = let no : true ≡ false = h refl in (cc)
      at true false h rest = omega arith
      at false true h rest = omega arith
      at false false h rest = rest

  -- of those that pass one test and not another, which all pass that pass the other
  pub rest_weighed : (a b : X → Bool) (xs : List X) → AllByRecursion (λ s. b s ≡ true → a s ≡ true) xs → weigh of (filter (λ s. a s && not (b s)) xs) ≡ weigh of (filter a xs) - weigh of (filter b xs)
  rest_weighed a b xs h = let sum = summed a b xs h in omega arith
    where
      summed : (a b : X → Bool) (xs : List X) → AllByRecursion (λ s. b s ≡ true → a s ≡ true) xs → weigh of (filter (λ s. a s && not (b s)) xs) + weigh of (filter b xs) ≡ weigh of (filter a xs)
      summed a b [] h = refl
      summed a b (s ∷ xs) h = at (a s) (b s) h.0 (summed a b xs h.1)
        where
          at : (p q : Bool) → (q ≡ true → p ≡ true) → weigh of (filter (λ s. a s && not (b s)) xs) + weigh of (filter b xs) ≡ weigh of (filter a xs)
              → weigh of (cond (p && not q) (s ∷ filter (λ s. a s && not (b s)) xs) (filter (λ s. a s && not (b s)) xs)) + weigh of (cond q (s ∷ filter b xs) (filter b xs)) ≡ weigh of (cond p (s ∷ filter a xs) (filter a xs))
          at true true h rest = omega arith
          at true false h rest = omega arith
          at false true h rest = let no : false ≡ true = h refl in (cc)
          at false false h rest = rest

  -- of those that pass a test that is sooner passed
  pub less_weighed : (a b : X → Bool) (xs : List X) → AllByRecursion (λ s. a s ≡ true → b s ≡ true) xs → weigh of (filter a xs) ≤ weigh of (filter b xs)
  less_weighed a b [] h = omega arith
  less_weighed a b (s ∷ xs) h = at (a s) (b s) h.0 (less_weighed a b xs h.1)
    where
      at : (p q : Bool) → (p ≡ true → q ≡ true) → weigh of (filter a xs) ≤ weigh of (filter b xs) → weigh of (cond p (s ∷ filter a xs) (filter a xs)) ≤ weigh of (cond q (s ∷ filter b xs) (filter b xs))
      at true true h rest = omega arith
      at true false h rest = let no : false ≡ true = h refl in (cc)
      at false true h rest = omega arith
      at false false h rest = rest

-- lists of which each passes both tests alike
pub same_filter : {X : Type 0} (a b : X → Bool) (xs : List X) → AllByRecursion (λ s. a s ≡ b s) xs → filter a xs ≡ filter b xs
same_filter a b [] h = refl
same_filter a b (s ∷ xs) h = ap (λ c. cond c (s ∷ filter a xs) (filter a xs)) h.0 ∙ ap (λ l. cond (b s) (s ∷ l) l) (same_filter a b xs h.1)

pub filter_twice : {X : Type 0} (a b : X → Bool) (xs : List X) → filter a (filter b xs) ≡ filter (λ s. b s && a s) xs
filter_twice a b [] = refl
filter_twice a b (s ∷ xs) = at (b s) (filter_twice a b xs)
  where
    at : (q : Bool) → filter a (filter b xs) ≡ filter (λ s. b s && a s) xs → filter a (cond q (s ∷ filter b xs) (filter b xs)) ≡ cond (q && a s) (s ∷ filter (λ s. b s && a s) xs) (filter (λ s. b s && a s) xs)
    at true rest = ap (λ l. cond (a s) (s ∷ l) l) rest
    at false rest = rest

-- ── the same sum in any order ──

summed : {X : Type 0} (of : X → ℕ) (xs : List X) → weigh of xs ≡ sum_by of xs
summed of [] = refl
summed of (x ∷ xs) = let rest = summed of xs in let more = sum_by-cons of x xs in omega arith

pub weighed_alike : {X : Type 0} (of : X → ℕ) (xs ys : List X) → IsPermutation xs ys → weigh of ys ≡ weigh of xs
weighed_alike of xs ys same = let first = summed of xs in let second = summed of ys in let alike = sum_by-IsPermutation of xs ys same in omega arith

pub weighed_mapped : {X Y : Type 0} (of : Y → ℕ) (f : X → Y) (xs : List X) → weigh of (map f xs) ≡ weigh (λ x. of (f x)) xs
weighed_mapped of f [] = refl
weighed_mapped of f (x ∷ xs) = ap (λ n. of (f x) + n) (weighed_mapped of f xs)
