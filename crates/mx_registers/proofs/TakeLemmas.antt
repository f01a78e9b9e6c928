-- The things that rows on lines are taken for.
use Rattle.std.proofs.Common.{◌≡◌, ℕ, ◌+◌, ◌==◌, List, [], ◌∷◌, ◌++◌, Bool, true, false, cond, ◌&&◌, Option, Some, None, refl, ap, ◌∙◌, arith}
use Rattle.std.specs.List.{AllByRecursion}
use Rattle.std.proofs.lemmas.Bool.{eqb-true}
use Rattle.std.proofs.lemmas.Bool.Decides.{nat_tests}
use Rattle.mx_book.proofs.JudgeLemmas.{both_true}
use Rattle.mx_registers.specs.Lines.{Lines, lines_from, is_on_line, take_lines, with_first}
use Rattle.mx_registers.specs.Registers.{place_row}
use Rattle.mx_registers.specs.Merge.{place_lines}

-- things in front of those that rows are taken for
abbrev pub behind : {X Row : Type 0} → List X → List X × List Row → List X × List Row
behind xs taken = (xs ++ taken.0, taken.1)

pub same-eq : (n : ℕ) → (n == n) ≡ true
same-eq n = grind (arith, nat_tests)

-- equal options have equal values
pub same_some : {X : Type 0} {a b : X} → Some a ≡ Some b → a ≡ b
same_some e = cc

-- the row of a thing says its entry and its line
pub record AreOnLines {X Row : Type 0} (lines : Lines X Row) (row_of : ℕ → ℕ → X → Row) : Type 0 where
  pub entry_is : (seq line : ℕ) (x : X) → lines.seq (row_of seq line x) ≡ seq
  pub line_is : (seq line : ℕ) (x : X) → lines.line (row_of seq line x) ≡ line

-- each row that says a thing is the row of that thing
pub record AreOfLines {X Row : Type 0} (lines : Lines X Row) (row_of : ℕ → ℕ → X → Row) : Type 0 where
  pub row_is : (row : Row) (x : X) → lines.said row ≡ Some x → row ≡ row_of (lines.seq row) (lines.line row) x

-- the row of the thing says it, on every line
abbrev pub IsSaid : {X Row : Type 0} → Lines X Row → (ℕ → ℕ → X → Row) → X → Type 0
IsSaid lines row_of x = (seq line : ℕ) → lines.said (row_of seq line x) ≡ Some x

-- the first row is not of the entry with this number
abbrev pub IsBehind : {X Row : Type 0} → Lines X Row → ℕ → List Row → Type 0
IsBehind lines seq [] = Unit {0}
IsBehind lines seq (row ∷ rows) = (lines.seq row == seq) ≡ false

module _ {X Row : Type 0} (lines : Lines X Row) (row_of : ℕ → ℕ → X → Row) (law : AreOfLines lines row_of) where
  -- ── the rows that are taken are those of the things ──

  on_line_is : (seq line : ℕ) (row : Row) (x : X) → is_on_line lines seq line row ≡ true → lines.said row ≡ Some x → row ≡ row_of seq line x
  on_line_is seq line row x h said =
      let both = both_true (lines.seq row == seq) (lines.line row == line) h in
      law.row_is row x said ∙ ap (λ (n : ℕ). row_of n (lines.line row) x) (eqb-true (lines.seq row) seq both.0)
      ∙ ap (λ (n : ℕ). row_of seq n x) (eqb-true (lines.line row) line both.1)

  taken_by : (o : Option X) (seq line : ℕ) (row : Row) (rows : List Row) (taken : List X × List Row) → is_on_line lines seq line row ≡ true → lines.said row ≡ o → rows ≡ lines_from row_of seq (line + 1) taken.0 ++ taken.1
      → row ∷ rows ≡ lines_from row_of seq line (with_first o (row ∷ rows) taken).0 ++ (with_first o (row ∷ rows) taken).1
  taken_by None seq line row rows taken is said h = refl
  taken_by (Some x) seq line row rows taken is said h = ap (λ (r : Row). r ∷ rows) (on_line_is seq line row x is said) ∙ ap (λ (rs : List Row). row_of seq line x ∷ rs) h

  taken_if : (b : Bool) (seq line : ℕ) (row : Row) (rows : List Row) (taken : List X × List Row) → is_on_line lines seq line row ≡ b → rows ≡ lines_from row_of seq (line + 1) taken.0 ++ taken.1
      → row ∷ rows ≡ lines_from row_of seq line (cond b (with_first (lines.said row) (row ∷ rows) taken) ([], row ∷ rows)).0 ++ (cond b (with_first (lines.said row) (row ∷ rows) taken) ([], row ∷ rows)).1
  taken_if true seq line row rows taken is h = taken_by (lines.said row) seq line row rows taken is refl h
  taken_if false seq line row rows taken is h = refl

  -- the rows are those of the things that are taken, and then the rows behind
  pub rows_taken : (seq line : ℕ) (rows : List Row) → rows ≡ lines_from row_of seq line (take_lines lines seq line rows).0 ++ (take_lines lines seq line rows).1
  rows_taken seq line [] = refl
  rows_taken seq line (row ∷ rows) = taken_if (is_on_line lines seq line row) seq line row rows (take_lines lines seq (line + 1) rows) refl (rows_taken seq (line + 1) rows)

module _ {X Row : Type 0} (lines : Lines X Row) (row_of : ℕ → ℕ → X → Row) (law : AreOnLines lines row_of) where
  -- ── the things whose rows stand in front are taken ──

  other_line : (b : Bool) (seq line : ℕ) (row : Row) → (lines.seq row == seq) ≡ b → b ≡ false → is_on_line lines seq line row ≡ false
  other_line true seq line row is h = (cc)
  other_line false seq line row is h = ap (λ c. c && (lines.line row == line)) is

  this_line : (seq line : ℕ) (x : X) → is_on_line lines seq line (row_of seq line x) ≡ true
  this_line seq line x =
      let row = row_of seq line x in
      ap (λ (n : ℕ). (n == seq) && (lines.line row == line)) (law.entry_is seq line x)
      ∙ ap (λ b. b && (lines.line row == line)) (same-eq seq)
      ∙ ap (λ (n : ℕ). n == line) (law.line_is seq line x)
      ∙ same-eq line

  pub takes_lines : (seq line : ℕ) (xs : List X) (rows : List Row) → AllByRecursion (IsSaid lines row_of) xs → IsBehind lines seq rows → take_lines lines seq line (lines_from row_of seq line xs ++ rows) ≡ (xs, rows)
  takes_lines seq line [] [] said h = refl
  takes_lines seq line [] (row ∷ rows) said h =
      ap (λ b. cond b (with_first (lines.said row) (row ∷ rows) (take_lines lines seq (line + 1) rows)) ([], row ∷ rows)) (other_line (lines.seq row == seq) seq line row refl h)
  takes_lines seq line (x ∷ xs) rows said h =
      let all = lines_from row_of seq (line + 1) xs ++ rows in
      let row = row_of seq line x in
      ap (λ b. cond b (with_first (lines.said row) (row ∷ all) (take_lines lines seq (line + 1) all)) ([], row ∷ all)) (this_line seq line x)
      ∙ ap (λ (o : Option X). with_first o (row ∷ all) (take_lines lines seq (line + 1) all)) (said.0 seq line)
      ∙ ap (λ (taken : List X × List Row). with_first (Some x) (row ∷ all) taken) (takes_lines seq (line + 1) xs rows said.1 h)

-- ── positions ──

pub places_on_lines : AreOnLines place_lines place_row
places_on_lines = record { entry_is = λ seq line p. refl; line_is = λ seq line p. refl }

pub places_of_rows : AreOfLines place_lines place_row
places_of_rows = record { row_is = λ row p said. ap (place_row row.seq row.line) (same_some said) }

pub places_said : (positions : List (List ℕ × List ℕ)) → AllByRecursion (IsSaid place_lines place_row) positions
places_said [] = tt
places_said (p ∷ positions) = (λ seq line. refl, places_said positions)
