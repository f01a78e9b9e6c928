-- A step that moves the rows of one table to another, at most 64 a commit, whatever the rows are: those that are left and those that come next, what both tables become, and what the tables stand for.
use Rattle.std.proofs.Common.{◌≡◌, ◌≢◌, inl, ℕ, ◌+◌, ◌<◌, ◌≤◌, ◌^◌, pos, Bool, true, false, not, cond, length, List, [], ◌∷◌, ◌++◌, map, filter, take, All, nat_le, None, refl, sym, ap, subst, ◌∙◌, arith}
use Rattle.std.specs.Prelude.{Contains}
use Rattle.std.specs.List.Sorted.{IsPermutation}
use Rattle.std.proofs.lemmas.Bool.Decides.{nat_tests}
use Rattle.std.proofs.lemmas.Int.{ints}
use Rattle.std.proofs.lemmas.List.{map-append}
use Rattle.std.proofs.lemmas.List.Elements.{All-contains, All-filter, All-head, All-map, All-tail, All-take, All-cons}
use Rattle.std.proofs.lemmas.List.Sorted.{All-permutation, IsPermutation-append_comm}
use Rattle.sqlite_keyed.proofs.ListLemmas.{filter-filter, filter-map, filter_same, IsPermutation-same}
use Rattle.sqlite.specs.declared.types.Value.TheVariants.{Int}
use Rattle.sqlite.specs.Order.{Row}
use Rattle.sqlite.specs.Tree.{Trees}
use Rattle.sqlite_sql.specs.declared.ops.CompareOp.TheVariants.{Le}
use Rattle.sqlite_typed.proofs.TestLemmas.{at_ints}
use Rattle.mx_book.specs.commands.Act.{Entry}
use Rattle.mx_book.specs.Book.{IsBook}
use Rattle.mx_book.specs.Programme.{last_of}
use Rattle.mx_book.specs.declared.limits.TheConstants.{MOST_ENTRIES}
use Rattle.mx_base.specs.declared.point.Point.{Point}
use Rattle.mx_base.specs.rows.Rising.{IsRising}
use Rattle.mx_base.proofs.RowsProofs.SortedLemmas.{keys_below}
use Rattle.mx_registers.specs.points.Moves.{last_moved}
use Rattle.mx_registers.specs.points.Points.{moving_from, next_point_to}
use Rattle.mx_registers.proofs.PointsProofs.OneBook.{filter_through}
use Rattle.mx_layout.specs.TableName.{TableName}
use Rattle.mx_layout.specs.Names.{table_named}
use Rattle.mx_layout.specs.Contents.{rows_in}
use Rattle.mx_layout.specs.Point.{point_cells, FitsPoint}
use Rattle.mx_layout.specs.kept.Kept.{Kept}
use Rattle.mx_layout.specs.kept.Family.{IsReadable}
use Rattle.mx_layout.specs.kept.Meanings.{IsLawful}
use Rattle.mx_layout.proofs.KeptProofs.OntoLemmas.{on_top_keeps}
use Rattle.mx_table_rows.specs.chosen.Choices.{is_up_to}
use Rattle.mx_table_rows.proofs.ChosenProofs.EqualLemmas.{equal_numbers}
use Rattle.mx_tables.specs.inserts.Sets.{IsDamaged}
use Rattle.mx_book_tables.specs.stands.Family.{rows_of, rows_given, is_at, Fit}
use Rattle.mx_book_tables.specs.stands.Stands.{StandsAt}
use Rattle.mx_book_tables.proofs.StandsProofs.RowLemmas.{readable_stored}
use Rattle.mx_moves.specs.Keeping.{kept_point, is_point_row, point_set}
use Rattle.mx_moves.proofs.RowLemmas.{Keeps, in_place_keeps, less_keeps}
use Rattle.mx_moves.specs.steps.Batches.{batch_moved, is_number_next}
use Rattle.mx_moves.specs.steps.Rows.{MakesRows}
use Rattle.mx_moves.proofs.StepsProofs.StandsLemmas.{stands_next}

-- ── the point, in every step ──

pub one_point : (old new : Point) → IsPermutation (point_cells new ∷ filter (λ row. not (is_point_row row)) (point_cells old ∷ [])) (point_cells new ∷ [])
one_point old new = IsPermutation-same _ _ (ap (λ b. point_cells new ∷ cond (not b) (point_cells old ∷ []) []) (equal_numbers 1 1))

pub point_keeps : (to : Point) (name : TableName) → Keeps (point_set to) name
point_keeps to name = in_place_keeps kept_point is_point_row to name

-- ── lists ──

taken_none : {X : Type 0} (xs : List X) → take 64 xs ≡ [] → xs ≡ []
taken_none [] e = refl
taken_none (x ∷ xs) e = absurd cc

-- a list that is not empty has a first
pub by_first_of : {X : Type 0} (A : Type 0) (xs : List X) → xs ≢ [] → ((x : X) (rest : List X) → xs ≡ x ∷ rest → A) → A
by_first_of A [] some f = absurd (some refl)
by_first_of A (x ∷ xs) some f = f x xs refl

is_next : (mark seq : ℕ) → mark < seq → seq ≤ MOST_ENTRIES → is_number_next mark seq ≡ true
is_next mark seq low high = grind (arith, nat_tests)

module _ {X : Type 0} (number : X → ℕ) where
  abbrev pub above : ℕ → X → Bool
  above mark row = not (nat_le (number row) mark)

  -- ── the last that is moved ──

  last_has : (P : ℕ → Type 0) (mark : ℕ) (rows : List X) → P mark → All (λ row. P (number row)) rows → P (last_moved number mark rows)
  last_has P mark [] h all = h
  last_has P mark (row ∷ rows) h all = last_has P (number row) rows (All-head (λ r. P (number r)) row rows all) (All-tail (λ r. P (number r)) row rows all)

  all_above : (mark : ℕ) (xs : List X) → All (λ row. mark < number row) (filter (above mark) xs)
  all_above mark [] = λ i d low. absurd (omega arith)
  all_above mark (x ∷ xs) = at (nat_le (number x) mark) refl (all_above mark xs)
    where
      at : (b : Bool) → nat_le (number x) mark ≡ b → All (λ row. mark < number row) (filter (above mark) xs) → All (λ row. mark < number row) (cond (not b) (x ∷ filter (above mark) xs) (filter (above mark) xs))
      at true e h = h
      at false e h = All-cons (λ row. mark < number row) x (filter (above mark) xs) (grind (arith, nat_tests)) h

  -- the number of the last that come next, or the mark
  abbrev pub last_next : ℕ → List X → ℕ
  last_next mark xs = last_moved number mark (take 64 (filter (above mark) xs))

  over_mark : (mark : ℕ) (xs : List X) → mark ≤ last_next mark xs
  over_mark mark xs = last_has (λ n. mark ≤ n) mark (take 64 (filter (above mark) xs)) (omega arith) (λ i d low. (let over = All-take (λ row. mark < number row) 64 (filter (above mark) xs) (all_above mark xs) i d low in omega arith))

  pub point_fits : (layout mark : ℕ) (xs : List X) → layout < 2 ^ 8 → mark < 2 ^ 32 → All (λ row. number row < 2 ^ 32) (filter (above mark) xs) → FitsPoint (moving_from layout 1 (last_next mark xs))
  point_fits layout mark xs small here below =
      (small, omega arith, last_has (λ n. n < 2 ^ 32) mark (take 64 (filter (above mark) xs)) here (All-take (λ row. number row < 2 ^ 32) 64 (filter (above mark) xs) below))

  -- where none is left there is no next mark
  pub none_next : (mark : ℕ) (xs : List X) → take 64 (filter (above mark) xs) ≡ [] → last_of (take 64 (filter (λ n. not (nat_le n mark)) (map number xs))) ≡ None
  none_next mark xs none = ap (λ l. last_of (take 64 l)) (filter_through number (λ n. not (nat_le n mark)) xs ∙ ap (map number) (taken_none (filter (above mark) xs) none))

  -- each that is left has still to move
  all_next : (mark : ℕ) (book : List Entry) (xs : List X) → IsBook book → IsRising number 1 xs (length book + 1) → All (λ row. is_number_next mark (number row) ≡ true) (filter (above mark) xs)
  all_next mark book xs is_book up =
      let few = is_book.few in
      let below = All-filter (above mark) (λ row. number row < length book + 1) xs (keys_below number 1 (length book + 1) xs up) in
      λ i d low. (let over = all_above mark xs i d low in let under = below i d low in is_next mark _ over (omega arith))

-- ── the old table ──

pub up_to_number : (n mark : ℕ) → is_up_to 0 (Int (pos mark)) (Int (pos n) ∷ []) ≡ nat_le n mark
up_to_number n mark = at_ints false Le (pos n) (pos mark) ∙ grind (arith, ints, nat_tests)

further : (mark last n : ℕ) → mark ≤ last → not (nat_le n last) ≡ true → not (nat_le n mark) ≡ true
further mark last n h e = grind (arith, nat_tests)

module _ {X : Type 0} (k : Kept X) where
  -- what is deleted leaves those past the last
  pub old_table : ((row : X) (n : ℕ) → is_up_to 0 (Int (pos n)) (k.as_cells row) ≡ nat_le (k.key row) n) → (mark : ℕ) (xs : List X)
      → filter (λ cells. not (is_up_to 0 (Int (pos (last_next k.key mark xs))) cells)) (map k.as_cells (filter (above k.key mark) xs)) ≡ map k.as_cells (filter (above k.key (last_next k.key mark xs)) xs)
  old_table told mark xs =
      let last = last_next k.key mark xs in
      filter-map (λ cells. not (is_up_to 0 (Int (pos last)) cells)) k.as_cells (filter (above k.key mark) xs)
      ∙ ap (map k.as_cells) (filter_same (λ row. not (is_up_to 0 (Int (pos last)) (k.as_cells row))) (above k.key last) (λ row. ap not (told row last)) (filter (above k.key mark) xs)
      ∙ filter-filter (above k.key last) (above k.key mark) (λ row. further mark last (k.key row) (over_mark k.key mark xs)) xs)

  -- a row that is kept as one of these is has its number
  abbrev NumberTold : ℕ → Row → Type 0
  NumberTold mark cells = (row : X) → cells ≡ k.as_cells row → is_number_next mark (k.key row) ≡ true

  -- of a table that has what is left, no row should have moved before, or has a number that no entry can have
  pub none_passed : IsLawful k → (mark : ℕ) (book : List Entry) (xs : List X) (stored : List Row) → IsBook book → IsRising k.key 1 xs (length book + 1) → IsPermutation (map k.as_cells (filter (above k.key mark) xs)) stored
      → (row : X) → Contains stored (k.as_cells row) → is_number_next mark (k.key row) ≡ false → ⊥
  none_passed law mark book xs stored is_book up given row there off =
      let left = filter (above k.key mark) xs in
      let told : All (NumberTold mark) stored = All-permutation (NumberTold mark) (map k.as_cells left) stored given
      (All-map (NumberTold mark) k.as_cells left (λ i d low other e. subst (λ n. is_number_next mark n ≡ true) (law.keyed _ ∙ ap k.cells_key e ∙ sym (law.keyed other)) (all_next k.key mark book xs is_book up i d low))) in
      let yes = All-contains (NumberTold mark) stored (k.as_cells row) told there row refl in absurd cc

-- nor is any of another type
pub none_damaged : (at : Point) (trees : Trees) (book : List Entry) (name : TableName) → StandsAt at trees book → is_at at name ≡ true → IsDamaged trees name → ⊥
none_damaged at trees book name stands there damaged =
    damaged.2 (All-contains (IsReadable name) (rows_in (table_named name) trees) damaged.0 (readable_stored at trees book stands.rows name there) damaged.1)

-- ── the new table ──

pub new_table : {X : Type 0} (k : Kept X) (moved had all : List X) → all ≡ had ++ moved → IsPermutation (map k.as_cells moved ++ map k.as_cells had) (map k.as_cells all)
new_table k moved had all brought =
    subst (IsPermutation (map k.as_cells moved ++ map k.as_cells had)) (sym (map-append k.as_cells had moved) ∙ ap (map k.as_cells) (sym brought))
    (IsPermutation-append_comm (map k.as_cells moved) (map k.as_cells had))

-- ── both ──

pub batch_keeps : {Old New : Type 0} (old : Kept Old) (new : Kept New) (rows : List New) (to : Point) (name : TableName) → Keeps (batch_moved old new rows to) name
batch_keeps old new rows to name xs ys same =
    point_keeps to name _ _ (less_keeps old (is_up_to 0 (Int (pos to.mark))) name _ _ (on_top_keeps new rows name xs ys same))

-- tables that all were there before stand for the same book at the next point, where what the book gives becomes what it gives there
pub batch_stands : (newest : ℕ) (from next : Point) (onto : Point → TableName → List Row → List Row) → FitsPoint next
    → ((name : TableName) → is_at next name ≡ true → is_at from name ≡ true) → ((name : TableName) → Keeps (onto next) name)
    → (at to : Point) (book : List Entry) (old new : Trees)
    → ((name : TableName) → is_at next name ≡ true → Fit (rows_of name) next book)
    → ((name : TableName) → is_at next name ≡ true → IsPermutation (onto next name (rows_given from book name)) (rows_given next book name))
    → at ≡ from → next_point_to newest from book ≡ next → to ≡ next → StandsAt from old book → MakesRows (onto to) to old new
    → (to ≡ next_point_to newest at book) × StandsAt to new book
batch_stands newest from next onto fits before keeps at to book old new fit become here leads is stands made =
    let done = stands_next from next book (onto next) old new fits fit (λ name there. inl (before name there, keeps name)) become stands (subst (λ q. MakesRows (onto q) q old new) is made) in
    (is ∙ sym leads ∙ ap (λ q. next_point_to newest q book) (sym here), subst (λ q. StandsAt q new book) (sym is) done)
