-- The latest of moments that things have, one thing after another.
use Rattle.std.proofs.Common.{◌≡◌, ◌++◌, ℕ, List, [], ◌∷◌, max, arith}
use Rattle.std.specs.Prelude.{fold}
use Rattle.std.specs.List.{flat_map}
use Rattle.mx_book.specs.Life.{latest}

latest_of_both : (ms ns : List ℕ) → latest (ms ++ ns) ≡ max (latest ms) (latest ns)
latest_of_both [] ns = omega arith
latest_of_both (m ∷ ms) ns = let behind = latest_of_both ms ns in omega arith

latest_from : {X : Type 0} (moments : X → List ℕ) (m : ℕ) (xs : List X) → fold (λ (m : ℕ) (x : X). max m (latest (moments x))) m xs ≡ max m (latest (flat_map moments xs))
latest_from moments m [] = omega arith
latest_from moments m (x ∷ xs) =
    let behind = latest_from moments (max m (latest (moments x))) xs in
    let split = latest_of_both (moments x) (flat_map moments xs) in
    omega arith

-- the later of what was, and of the moments of each thing, is the latest of them all
pub latest_by_fold : {X : Type 0} (moments : X → List ℕ) (xs : List X) → fold (λ (m : ℕ) (x : X). max m (latest (moments x))) 0 xs ≡ latest (flat_map moments xs)
latest_by_fold moments xs = let all = latest_from moments 0 xs in omega arith
