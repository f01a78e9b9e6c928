-- Tests that all of a list pass: what is left of it, and the same list in order.
use Rattle.std.proofs.Common.{◌≡◌, refl, sym, ap, ◌∙◌, List, [], ◌∷◌, Bool, true, false, cond, ◌&&◌}
use Rattle.std.specs.List.{list_all}
use Rattle.mx_book.proofs.JudgeLemmas.{both_true}
use Rattle.mx_lists.specs.Order.{placed, put_in, in_order}

and_of : (p q : Bool) → p ≡ true → q ≡ true → p && q ≡ true
and_of p q h k = ap (λ b. b && q) h ∙ k

-- where all pass, the first passes, and so do those behind it
pub all_left : {X : Type 0} (test : X → Bool) (xs later : List X) (x : X) → xs ≡ x ∷ later → list_all test xs ≡ true → (test x ≡ true) × (list_all test later ≡ true)
all_left test xs later x e h = both_true (test x) (list_all test later) (ap (list_all test) (sym e) ∙ h)

module _ {X : Type 0} (test : X → Bool) (before : X → X → Bool) where
  placed_by : (x y : X) (ys : List X) (b : Bool) → test x ≡ true → test y && list_all test ys ≡ true → list_all test (placed before x ys) ≡ true → list_all test (cond b (x ∷ y ∷ ys) (y ∷ placed before x ys)) ≡ true
  placed_by x y ys true h k later = and_of (test x) (test y && list_all test ys) h k
  placed_by x y ys false h k later = and_of (test y) (list_all test (placed before x ys)) (both_true (test y) (list_all test ys) k).0 later

  placed_all : (x : X) (ys : List X) → test x ≡ true → list_all test ys ≡ true → list_all test (placed before x ys) ≡ true
  placed_all x [] h k = and_of (test x) true h refl
  placed_all x (y ∷ ys) h k = placed_by x y ys (before x y) h k (placed_all x ys h (both_true (test y) (list_all test ys) k).1)

  put_in_all : (done xs : List X) → list_all test done ≡ true → list_all test xs ≡ true → list_all test (put_in before done xs) ≡ true
  put_in_all done [] h k = h
  put_in_all done (x ∷ xs) h k =
      let both = both_true (test x) (list_all test xs) k in
      put_in_all (placed before x done) xs (placed_all x done both.0 h) both.1

  -- where all pass, so do all of the same list in order
  pub in_order_all : (xs : List X) → list_all test xs ≡ true → list_all test (in_order before xs) ≡ true
  in_order_all xs h = put_in_all [] xs refl h
