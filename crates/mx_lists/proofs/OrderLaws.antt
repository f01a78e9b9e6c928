-- What a list put in order is: ascending, with ties as they were; and no other list is that.
use Rattle.std.proofs.Common.{◌≡◌, ℕ, suc, ◌≤◌, ◌<◌, List, [], ◌∷◌, ◌++◌, length, Bool, true, false, cond, not, ◌&&◌, refl, ap, ◌∙◌, sym, arith, append_assoc, append-nil, get_or}
use Rattle.std.specs.Prelude.{filter}
use Rattle.std.specs.Cmp.{IsStrictWeakOrder}
use Rattle.std.specs.List.Sorted.{IsSortedBy, IsStableBy, ties}
use Rattle.std.proofs.lemmas.List.Sorted.{sorted_far}
use Rattle.std.proofs.lemmas.List.Elements.{filter-append}
use Rattle.mx_lists.specs.Order.{placed, put_in, in_order}

-- ── ascending ──

-- none of these rows comes before x
abbrev NoneBefore : {X : Type 0} → (X → X → Bool) → X → List X → Type 0
NoneBefore before x [] = Unit {0}
NoneBefore before x (y ∷ ys) = (before y x ≡ false) × NoneBefore before x ys

abbrev Ascends : {X : Type 0} → (X → X → Bool) → List X → Type 0
Ascends before [] = Unit {0}
Ascends before (x ∷ xs) = NoneBefore before x xs × Ascends before xs

both : (p q : Bool) → p ≡ false → q ≡ false → not p && not q ≡ true
both p q a b = ap (λ p. not p && not q) a ∙ ap (λ q. not false && not q) b

fst_of : (p q : Bool) → not p && not q ≡ true → p ≡ false
fst_of true q h = (cc)
fst_of false q h = refl

snd_of : (p q : Bool) → not p && not q ≡ true → q ≡ false
snd_of true q h = (cc)
snd_of false true h = (cc)
snd_of false false h = refl

-- of two tests, it does not matter which is first
filter-swap : {X : Type 0} (p q : X → Bool) (xs : List X) → filter p (filter q xs) ≡ filter q (filter p xs)
filter-swap p q [] = refl
filter-swap p q (x ∷ xs) = at (filter-swap p q xs) (p x) refl (q x) refl
  where
    at : filter p (filter q xs) ≡ filter q (filter p xs) → (b : Bool) → p x ≡ b → (c : Bool) → q x ≡ c → filter p (cond c (x ∷ filter q xs) (filter q xs)) ≡ filter q (cond b (x ∷ filter p xs) (filter p xs))
    at later true e true d =
        ap (λ b. cond b (x ∷ filter p (filter q xs)) (filter p (filter q xs))) e ∙ ap (λ l. x ∷ l) later
        ∙ sym (ap (λ c. cond c (x ∷ filter q (filter p xs)) (filter q (filter p xs))) d)
    at later true e false d = later ∙ sym (ap (λ c. cond c (x ∷ filter q (filter p xs)) (filter q (filter p xs))) d)
    at later false e true d = ap (λ b. cond b (x ∷ filter p (filter q xs)) (filter p (filter q xs))) e ∙ later
    at later false e false d = later

module _ {X : Type 0} (before : X → X → Bool) (o : IsStrictWeakOrder before) where
  itself : (x : X) (b : Bool) → before x x ≡ b → b ≡ false
  itself x true e = let f : before x x ≡ false = o.one_way x x e in (cc)
  itself x false e = refl

  -- what is not before y is not before what is not before that
  none_beyond : (x y : X) (ys : List X) → before y x ≡ false → NoneBefore before y ys → NoneBefore before x ys
  none_beyond x y [] h n = tt
  none_beyond x y (z ∷ zs) h n = (o.chain z y x n.0 h, none_beyond x y zs h n.1)

  none_placed : (x y : X) (ys : List X) → before y x ≡ false → NoneBefore before x ys → NoneBefore before x (placed before y ys)
  none_placed x y [] h n = (h, tt)
  none_placed x y (z ∷ zs) h n = at (none_placed x y zs h n.1) (before y z)
    where
      at : NoneBefore before x (placed before y zs) → (b : Bool) → NoneBefore before x (cond b (y ∷ z ∷ zs) (z ∷ placed before y zs))
      at later true = (h, n)
      at later false = (n.0, later)

  ascends_placed : (x : X) (ys : List X) → Ascends before ys → Ascends before (placed before x ys)
  ascends_placed x [] a = (tt, tt)
  ascends_placed x (y ∷ ys) a = at (ascends_placed x ys a.1) (before x y) refl
    where
      at : Ascends before (placed before x ys) → (b : Bool) → before x y ≡ b → Ascends before (cond b (x ∷ y ∷ ys) (y ∷ placed before x ys))
      at later true e = let back : before y x ≡ false = o.one_way x y e in ((back, none_beyond x y ys back a.0), a)
      at later false e = (none_placed y x ys e a.0, later)

  ascends_put_in : (done xs : List X) → Ascends before done → Ascends before (put_in before done xs)
  ascends_put_in done [] a = a
  ascends_put_in done (x ∷ xs) a = ascends_put_in (placed before x done) xs (ascends_placed x done a)

  pub in_order-ascends : (xs : List X) → Ascends before (in_order before xs)
  in_order-ascends xs = ascends_put_in [] xs tt

  -- ── ties as they were ──

  -- where y comes before z, what ties with y ties with nothing that is not before z
  past : (x y z w : X) → ties before x y ≡ true → before y z ≡ true → before w z ≡ false → (b : Bool) → ties before x w ≡ b → b ≡ false
  past x y z w t e n true s =
      let xz : before x z ≡ false = o.chain x w z (fst_of (before x w) (before w x) s) n in
      let yz : before y z ≡ false = o.chain y x z (snd_of (before x y) (before y x) t) xz in
      (cc)
  past x y z w t e n false s = refl

  no_ties : (x y z : X) (ws : List X) → ties before x y ≡ true → before y z ≡ true → NoneBefore before z ws → filter (ties before x) ws ≡ []
  no_ties x y z [] t e n = refl
  no_ties x y z (w ∷ ws) t e n =
      ap (λ b. cond b (w ∷ filter (ties before x) ws) (filter (ties before x) ws)) (past x y z w t e n.0 (ties before x w) refl) ∙ no_ties x y z ws t e n.1

  placed-stable : (x y : X) (ys : List X) → Ascends before ys → filter (ties before x) (placed before y ys) ≡ filter (ties before x) (ys ++ y ∷ [])
  placed-stable x y [] a = refl
  placed-stable x y (z ∷ zs) a = at (placed-stable x y zs a.1) (before y z) refl (ties before x y) refl
    where
      at : filter (ties before x) (placed before y zs) ≡ filter (ties before x) (zs ++ y ∷ []) → (b : Bool) → before y z ≡ b → (t : Bool) → ties before x y ≡ t → filter (ties before x) (cond b (y ∷ z ∷ zs) (z ∷ placed before y zs)) ≡ filter (ties before x) (z ∷ zs ++ y ∷ [])
      at later false e t s = ap (λ rest. cond (ties before x z) (z ∷ rest) rest) later
      at later true e true s =
          let none : filter (ties before x) (z ∷ zs) ≡ [] = no_ties x y z (z ∷ zs) s e (itself z (before z z) refl, a.0) in
          ap (λ b. cond b (y ∷ filter (ties before x) (z ∷ zs)) (filter (ties before x) (z ∷ zs))) s ∙ ap (λ l. y ∷ l) none
          ∙ sym (filter-append (ties before x) (z ∷ zs) (y ∷ []) ∙ ap (λ l. l ++ filter (ties before x) (y ∷ [])) none ∙ ap (λ b. cond b (y ∷ []) []) s)
      at later true e false s =
          ap (λ b. cond b (y ∷ filter (ties before x) (z ∷ zs)) (filter (ties before x) (z ∷ zs))) s
          ∙ sym (filter-append (ties before x) (z ∷ zs) (y ∷ []) ∙ ap (λ b. filter (ties before x) (z ∷ zs) ++ cond b (y ∷ []) []) s ∙ append-nil (filter (ties before x) (z ∷ zs)))

  put_in-stable : (x : X) (done xs : List X) → Ascends before done → filter (ties before x) (put_in before done xs) ≡ filter (ties before x) (done ++ xs)
  put_in-stable x done [] a = ap (filter (ties before x)) (sym (append-nil done))
  put_in-stable x done (y ∷ xs) a =
      put_in-stable x (placed before y done) xs (ascends_placed y done a) ∙ filter-append (ties before x) (placed before y done) xs
      ∙ ap (λ l. l ++ filter (ties before x) xs) (placed-stable x y done a) ∙ sym (filter-append (ties before x) (done ++ y ∷ []) xs)
      ∙ ap (filter (ties before x)) (append_assoc done (y ∷ []) xs)

  pub in_order-stable : (xs : List X) → IsStableBy before xs (in_order before xs)
  in_order-stable xs x = put_in-stable x [] xs tt

  -- ── and no other list ──

  tied_first : (x y w : X) (zs rest : List X) → NoneBefore before y zs → filter (ties before x) zs ≡ w ∷ rest → before x y ≡ false
  tied_first x y w [] rest n h = (cc)
  tied_first x y w (z ∷ zs) rest n h = at (tied_first x y w zs rest n.1) (ties before x z) refl h
    where
      at : (filter (ties before x) zs ≡ w ∷ rest → before x y ≡ false) → (b : Bool) → ties before x z ≡ b → cond b (z ∷ filter (ties before x) zs) (filter (ties before x) zs) ≡ w ∷ rest → before x y ≡ false
      at later true s q = o.chain x z y (fst_of (before x z) (before z x) s) n.0
      at later false s q = later q

  with_itself : (x : X) → ties before x x ≡ true
  with_itself x = let n : before x x ≡ false = itself x (before x x) refl in both (before x x) (before x x) n n

  first_kept : (x : X) (xs : List X) → filter (ties before x) (x ∷ xs) ≡ x ∷ filter (ties before x) xs
  first_kept x xs = ap (λ b. cond b (x ∷ filter (ties before x) xs) (filter (ties before x) xs)) (with_itself x)

  stripped : (x : X) (b : Bool) (l m : List X) → cond b (x ∷ l) l ≡ cond b (x ∷ m) m → l ≡ m
  stripped x true l m h = (cc)
  stripped x false l m h = h

  pub only : (xs ys : List X) → Ascends before xs → Ascends before ys → ((x : X) → filter (ties before x) xs ≡ filter (ties before x) ys) → xs ≡ ys
  only [] [] a b h = refl
  only [] (y ∷ ys) a b h = let e : [] ≡ y ∷ filter (ties before y) ys = h y ∙ first_kept y ys in (cc)
  only (x ∷ xs) [] a b h = let e : x ∷ filter (ties before x) xs ≡ [] = sym (first_kept x xs) ∙ h x in (cc)
  only (x ∷ xs) (y ∷ ys) a b h =
      let xy : before x y ≡ false = tied_first x y x (y ∷ ys) (filter (ties before x) xs) (itself y (before y y) refl, b.0) (sym (h x) ∙ first_kept x xs) in
      let yx : before y x ≡ false = tied_first y x y (x ∷ xs) (filter (ties before y) ys) (itself x (before x x) refl, a.0) (h y ∙ first_kept y ys) in
      let t : ties before x y ≡ true = both (before x y) (before y x) xy yx in
      let e : x ∷ filter (ties before x) xs ≡ y ∷ filter (ties before x) ys =
      sym (first_kept x xs) ∙ h x ∙ ap (λ b. cond b (y ∷ filter (ties before x) ys) (filter (ties before x) ys)) t in
      let same : y ≡ x = cc in
      let left : xs ≡ ys = only xs ys a.1 b.1 (λ z. stripped x (ties before z x) (filter (ties before z) xs) (filter (ties before z) ys)
      (h z ∙ ap (λ w. cond (ties before z w) (w ∷ filter (ties before z) ys) (filter (ties before z) ys)) same)) in
      cc

  -- ── some of a list in order, and a list in order put in order ──

  none_kept : (p : X → Bool) (x : X) (ys : List X) → NoneBefore before x ys → NoneBefore before x (filter p ys)
  none_kept p x [] n = tt
  none_kept p x (y ∷ ys) n = at (none_kept p x ys n.1) (p y)
    where
      at : NoneBefore before x (filter p ys) → (b : Bool) → NoneBefore before x (cond b (y ∷ filter p ys) (filter p ys))
      at later true = (n.0, later)
      at later false = later

  ascends_kept : (p : X → Bool) (xs : List X) → Ascends before xs → Ascends before (filter p xs)
  ascends_kept p [] a = tt
  ascends_kept p (x ∷ xs) a = at (ascends_kept p xs a.1) (p x)
    where
      at : Ascends before (filter p xs) → (b : Bool) → Ascends before (cond b (x ∷ filter p xs) (filter p xs))
      at later true = (none_kept p x xs a.0, later)
      at later false = later

  -- those that pass a test, of a list in order, are those that pass it in order
  pub filter-in_order : (p : X → Bool) (xs : List X) → filter p (in_order before xs) ≡ in_order before (filter p xs)
  filter-in_order p xs =
      only (filter p (in_order before xs)) (in_order before (filter p xs)) (ascends_kept p (in_order before xs) (in_order-ascends xs)) (in_order-ascends (filter p xs))
      (λ x. filter-swap (ties before x) p (in_order before xs) ∙ ap (filter p) (in_order-stable xs x) ∙ filter-swap p (ties before x) xs ∙ sym (in_order-stable (filter p xs) x))

  -- a list in order is that in order
  pub in_order-again : (xs : List X) → in_order before (in_order before xs) ≡ in_order before xs
  in_order-again xs =
      only (in_order before (in_order before xs)) (in_order before xs) (in_order-ascends (in_order before xs)) (in_order-ascends xs)
      (λ x. in_order-stable (in_order before xs) x)

  -- ── the sort of std ──

  none_from : (x : X) (ys : List X) → ((k : ℕ) (d : X) → k < length ys → before (get_or ys k d) x ≡ false) → NoneBefore before x ys
  none_from x [] h = tt
  none_from x (y ∷ ys) h = (h 0 y (omega arith), none_from x ys (λ k d below. h (suc k) d (omega (arith, below))))

  ascends_from : (xs : List X) → ((i j : ℕ) (d : X) → i ≤ j → j < length xs → before (get_or xs j d) (get_or xs i d) ≡ false) → Ascends before xs
  ascends_from [] h = tt
  ascends_from (x ∷ xs) h =
      (none_from x xs (λ k d below. h 0 (suc k) d (omega arith) (omega (arith, below))), ascends_from xs (λ i j d low below. h (suc i) (suc j) d (omega (arith, low)) (omega (arith, below))))

  -- a sorted list with ties as they were is the list in order: so a stable sort gives it
  pub sorted_stable_is : (xs ys : List X) → IsSortedBy before ys → IsStableBy before xs ys → ys ≡ in_order before xs
  sorted_stable_is xs ys up same =
      only ys (in_order before xs) (ascends_from ys (sorted_far before o ys up)) (in_order-ascends xs) (λ x. same x ∙ sym (in_order-stable xs x))
