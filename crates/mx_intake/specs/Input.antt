-- What is taken of the bytes that a reader has left.
use Rattle.std.specs.Prelude.{◌≡◌, ◌≤◌, ◌<◌, ℕ, List, length, Option, Some, None, ⊤}
use Rattle.std.specs.Io.KnownBytes.{Consumes}

-- at most so many bytes were taken
abbrev pub TakesAtMost : Option (List ℕ) → Option (List ℕ) → ℕ → Type 0
TakesAtMost old new most = (taken : List ℕ) × Consumes old new taken × (length taken ≤ most)

-- the bytes that are left are more than that, where they are known
abbrev pub IfKnownLonger : Option (List ℕ) → ℕ → Type 0
IfKnownLonger None limit = ⊤
IfKnownLonger (Some left) limit = limit < length left

-- the bytes are all that were left, where those are known
abbrev pub IfKnownAll : Option (List ℕ) → List ℕ → Type 0
IfKnownAll None bytes = ⊤
IfKnownAll (Some left) bytes = bytes ≡ left
