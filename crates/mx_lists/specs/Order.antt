-- Lists put in order.
use Rattle.std.specs.Prelude.{ℕ, List, [], ◌∷◌, Bool, if◌then◌else◌, fold}
use Rattle.std.specs.Ordering.{is_lt, nat_cmp}
use Rattle.std.specs.Cmp.Lexicographic.{slice_cmp}

-- x, put before the first that it comes before
abbrev pub placed : {X : Type 0} → (X → X → Bool) → X → List X → List X
placed before x [] = x ∷ []
placed before x (y ∷ ys) = if before x y then x ∷ y ∷ ys else y ∷ placed before x ys

-- each in its turn, put among those that are done
abbrev pub put_in : {X : Type 0} → (X → X → Bool) → List X → List X → List X
put_in before done xs = fold (λ ys x. placed before x ys) done xs

-- the list in order: each in its turn is put before the first that it comes before, so that ties stay as they were
abbrev pub in_order : {X : Type 0} → (X → X → Bool) → List X → List X
in_order before xs = put_in before [] xs

-- one text comes before another, by their bytes
abbrev pub text_before : List ℕ → List ℕ → Bool
text_before a b = is_lt (slice_cmp nat_cmp a b)
