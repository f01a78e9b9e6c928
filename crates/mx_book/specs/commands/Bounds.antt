-- Numbers within their bounds, and lists that have nothing twice.
use Rattle.std.specs.Prelude.{ℕ, List, [], ◌∷◌, Bool, true, not, ◌&&◌, nat_le}
use Rattle.std.specs.List.{list_any}

-- the number is from least to most
abbrev pub within : ℕ → ℕ → ℕ → Bool
within least most number = nat_le least number && nat_le number most

-- no two are the same
abbrev pub are_distinct : {X : Type 0} → (X → X → Bool) → List X → Bool
are_distinct same [] = true
are_distinct same (x ∷ xs) = not (list_any (same x) xs) && are_distinct same xs
