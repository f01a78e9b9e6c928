-- Rows that are made of things one after another, each on its line.
use Rattle.std.proofs.Common.{◌≡◌, ◌+◌, ◌++◌, ℕ, List, length, All}
use Rattle.mx_registers.specs.Lines.{lines_from}

-- some things have their rows, and those that are left come behind them from this line on
abbrev pub AreRowsSoFar : {X Row : Type 0} → (ℕ → ℕ → X → Row) → (Row → Type 0) → ℕ → List X → List Row → ℕ → List X → Type 0
AreRowsSoFar row_of Fits seq things rows line rest = record {
  count : line + length rest ≡ 1 + length things;
  split : lines_from row_of seq 1 things ≡ rows ++ lines_from row_of seq line rest;
  fits : All Fits rows;
}
