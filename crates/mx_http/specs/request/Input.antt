-- What reading takes of the bytes that a reader has left.
use Rattle.std.specs.Prelude.{◌≡◌, ◌≤◌, ◌<◌, ℕ, List, ◌++◌, length, Option}
use Rattle.std.specs.Io.KnownBytes.{Consumes, IsAtEnd}

-- n bytes were taken, at most so many, and stand behind those that were there: none only at the end
abbrev pub AddsTaken : Option (List ℕ) → Option (List ℕ) → List ℕ → List ℕ → ℕ → ℕ → Type 0
AddsTaken old new before behind n most =
    (taken : List ℕ) × Consumes old new taken × (behind ≡ before ++ taken) × (length taken ≡ n) × (n ≤ most)
    × (n ≡ 0 → 0 < most → IsAtEnd new)
