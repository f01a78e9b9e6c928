-- Lists in the order of a number, their key.
use Rattle.std.specs.Prelude.{ℕ, ◌+◌, ◌≤◌, List, [], ◌∷◌, ⊤}

-- each key is greater than the one before it, from low on and below high
abbrev pub IsRising : {Row : Type 0} → (Row → ℕ) → ℕ → List Row → ℕ → Type 0
IsRising key low [] high = low ≤ high
IsRising key low (row ∷ rows) high = (low ≤ key row) × IsRising key (key row + 1) rows high

-- no key is less than the one before it, from low on
abbrev pub IsFrom : {Row : Type 0} → (Row → ℕ) → ℕ → List Row → Type 0
IsFrom key low [] = ⊤
IsFrom key low (row ∷ rows) = (low ≤ key row) × IsFrom key (key row) rows
