-- Lists that entries have, a thing on each line from 1: the rows that they give, and the things that rows are taken for.
-- Positions, tasks and lines of releases have this one form, whose laws are said once over any type of row; each says
-- only what a row has for its entry, its line and the thing there.
use Rattle.std.specs.Prelude.{ℕ, ◌+◌, Bool, ◌&&◌, List, [], ◌∷◌, Option, Some, None, nat_eq, if◌then◌else◌}

-- the rows of things of the entry with this number, from this line on
abbrev pub lines_from : {X Row : Type 0} → (ℕ → ℕ → X → Row) → ℕ → ℕ → List X → List Row
lines_from row_of seq line [] = []
lines_from row_of seq line (x ∷ xs) = row_of seq line x ∷ lines_from row_of seq (line + 1) xs

-- what a row on a line says: the number of its entry, its line, and the thing there, where it says one
pub record Lines (X Row : Type 0) : Type 0 where
  pub seq : Row → ℕ
  pub line : Row → ℕ
  pub said : Row → Option X

-- the row is on this line of the entry with this number
abbrev pub is_on_line : {X Row : Type 0} → Lines X Row → ℕ → ℕ → Row → Bool
is_on_line lines seq line row = nat_eq (lines.seq row) seq && nat_eq (lines.line row) line

-- the first thing and what the rows behind it are taken for, or, where the first row says none, these rows
abbrev pub with_first : {X Row : Type 0} → Option X → List Row → List X × List Row → List X × List Row
with_first None rows taken = ([], rows)
with_first (Some x) rows taken = (x ∷ taken.0, taken.1)

-- the things of the entry with this number, from this line on, up to a row that says none, and the rows behind them
abbrev pub take_lines : {X Row : Type 0} → Lines X Row → ℕ → ℕ → List Row → List X × List Row
take_lines lines seq line [] = ([], [])
take_lines lines seq line (row ∷ rows) = if is_on_line lines seq line row then with_first (lines.said row) (row ∷ rows) (take_lines lines seq (line + 1) rows) else ([], row ∷ rows)
