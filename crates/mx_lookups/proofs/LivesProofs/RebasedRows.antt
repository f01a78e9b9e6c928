-- The accomplishments of a task of an item, their values with a new sector, once they were written anew by their rows alone: those of the book with the sector.
use Rattle.std.proofs.Common.{◌≡◌, ◌∙◌, ℕ, ◌+◌, pos, Bool, true, false, not, ◌&&◌, cond, List, [], ◌∷◌, ◌++◌, map, filter, length, nat_eq, None, Some, Option, refl, sym, ap, ap₂, subst, arith, append-nil, slice_index_or}
use Rattle.std.specs.Prelude.{All, IsPermutation, IsSorted}
use Rattle.std.specs.List.{AllByRecursion, list_any}
use Rattle.std.specs.Ordering.{is_lt}
use Rattle.std.proofs.lemmas.List.{get_or-map, length-map, map-append}
use Rattle.std.proofs.lemmas.List.Elements.{All-weaker, filter-append, filter_passes, recursion_from_All}
use Rattle.std.proofs.lemmas.List.Sorted.{IsPermutation-append_right, IsPermutation-map, IsPermutation-sym, IsPermutation-trans}
use Rattle.sqlite.specs.Effect.{Database}
use Rattle.sqlite.specs.Order.{Row}
use Rattle.sqlite.specs.declared.types.Value.TheVariants.{Int, Text}
use Rattle.sqlite_keyed.proofs.ListLemmas.{all_weaker, filter-map, filter_all, filter_none, filter_same, IsPermutation-filter}
use Rattle.mx_base.specs.declared.amounts.Base.{Base}
use Rattle.mx_base.specs.declared.rows.rows.DoneRow.{DoneRow}
use Rattle.mx_base.specs.rows.Rising.{IsRising}
use Rattle.mx_base.specs.rows.Rows.{line_key}
use Rattle.mx_base.proofs.RowsProofs.SortedLemmas.{IsRising-map}
use Rattle.mx_book.specs.commands.Act.{Entry, Flown}
use Rattle.mx_book.specs.commands.Shape.{act_shape}
use Rattle.mx_book.specs.declared.commands.item.Item.{Item}
use Rattle.mx_book.specs.declared.commands.sector.Sector.{Sector}
use Rattle.mx_book.specs.declared.verdict.Verdict.TheVariants.{New}
use Rattle.mx_book.specs.due.Moved.{due_moved, lesser_of, moved, row_with}
use Rattle.mx_book.specs.Book.{IsBook}
use Rattle.mx_book.specs.Judge.{judge}
use Rattle.mx_registers.specs.Names.{has_item, item_at}
use Rattle.mx_registers.specs.kept.Changes.{entry_of}
use Rattle.mx_registers.specs.kept.Totals.{numbers_flown}
use Rattle.mx_registers.specs.late.Done.{credited_late, done_rows_of, is_behind, is_done_of, value_more}
use Rattle.mx_registers.proofs.LateProofs.DoneLate.{credited_rebased}
use Rattle.mx_registers.proofs.LateProofs.DoneMoved.{late_moved}
use Rattle.mx_registers.proofs.LateProofs.DoneOrder.{rows_rise}
use Rattle.mx_layout.specs.Contents.{rows_in}
use Rattle.mx_layout.specs.Reading.{by_four}
use Rattle.mx_layout.specs.Tables.{done3}
use Rattle.mx_layout.specs.kept.Cells.{kept_done3}
use Rattle.mx_table_rows.specs.totals.Remade.{CanRemake, IsRemade}
use Rattle.mx_table_rows.specs.totals.Several.{AreExactly}
use Rattle.mx_lookups.specs.numbers.Given.{is_of}
use Rattle.mx_lookups.specs.numbers.Later.{AreDoneRows}
use Rattle.mx_lookups.proofs.LivesProofs.DoneOrder.{in_order, of_is, of_task, place}

-- ── what a sector and what a new due leave of a row ──

-- the rows of a task of an item, their values with a sector
abbrev credited : List Entry → Sector → ℕ → Item → List ℕ → List DoneRow
credited book s n item id = map (credited_late book (numbers_flown book s) s) (done_rows_of book n item id)

placed_as_before : (book : List Entry) (numbers : List ℕ) (s : Sector) (row : DoneRow) → place row ≡ place (credited_late book numbers s row)
placed_as_before book numbers s row = at (list_any (nat_eq row.item) numbers && is_behind book s row)
  where
    at : (c : Bool) → place row ≡ place (cond {A = DoneRow} c (record row { value = value_more s row.value }) row)
    at true = refl
    at false = refl

credited_rise : (book : List Entry) (s : Sector) (n : ℕ) (item : Item) (id : List ℕ) → IsBook book → IsRising place (line_key 1 0) (credited book s n item id) (line_key (length book + 1) 0)
credited_rise book s n item id b =
    IsRising-map (credited_late book (numbers_flown book s) s) place place (placed_as_before book (numbers_flown book s) s) (line_key 1 0) (line_key (length book + 1) 0) (done_rows_of book n item id) (rows_rise book n item id b)

-- the columns that the order of the table looks at
abbrev ordered_by : DoneRow → Row
ordered_by row = Int (pos row.item) ∷ Text row.task ∷ Int (pos row.seq) ∷ Int (pos row.line) ∷ []

moved_ordered : (old new : Option Base) (rows : List DoneRow) → map ordered_by (moved old new rows) ≡ map ordered_by rows
moved_ordered old new [] = refl
moved_ordered old new (row ∷ rows) = ap (λ l. ordered_by row ∷ l) (moved_ordered (Some row.base) (Some (lesser_of row.value (due_moved old new row.due))) rows)

-- rows are in that order by any cells that agree on it
sorted_as : (f g : DoneRow → Row) → ((x y : DoneRow) → by_four (g x) (g y) ≡ by_four (f x) (f y)) → (rows : List DoneRow) → IsSorted by_four (map f rows) → IsSorted by_four (map g rows)
sorted_as f g same [] sorted k d low less = absurd (omega (arith, less))
sorted_as f g same (x ∷ xs) sorted k d low less =
    let rows = x ∷ xs in
    let long = length-map rows g in
    let long_too = length-map rows f in
    let one = slice_index_or rows (k + 1) x in
    let other = slice_index_or rows k x in
    let here : is_lt (by_four (slice_index_or (map f rows) (k + 1) d) (slice_index_or (map f rows) k d)) ≡ false = sorted k d low (omega (arith, less, long, long_too)) in
    let before : is_lt (by_four (f one) (f other)) ≡ false =
    sym (ap₂ (λ (a b : Row). is_lt (by_four a b)) (get_or-map f rows (k + 1) x d (omega (arith, less, long))) (get_or-map f rows k x d (omega (arith, less, long)))) ∙ here in
    ap₂ (λ (a b : Row). is_lt (by_four a b)) (get_or-map g rows (k + 1) x d (omega (arith, less, long))) (get_or-map g rows k x d (omega (arith, less, long))) ∙ ap is_lt (same one other) ∙ before

moved_sorted : (old new : Option Base) (rows : List DoneRow) → IsSorted by_four (map kept_done3.as_cells rows) → IsSorted by_four (map kept_done3.as_cells (moved old new rows))
moved_sorted old new rows sorted =
    sorted_as ordered_by kept_done3.as_cells (λ x y. refl) (moved old new rows) (subst (IsSorted by_four) (sym (moved_ordered old new rows)) (sorted_as kept_done3.as_cells ordered_by (λ x y. refl) rows sorted))

-- ── two tests ──

not_true : (b : Bool) → not b ≡ true → b ≡ false
not_true true h = sym h
not_true false h = refl

module _ (n : ℕ) (id : List ℕ) where
  abbrev its : Row → Bool
  its = is_of n id

  abbrev others : Row → Bool
  others row = not (is_of n id row)

  moved_pass : (old new : Option Base) (rows : List DoneRow) → AllByRecursion (λ row. is_done_of n id row ≡ true) rows → AllByRecursion (λ cells. its cells ≡ true) (map kept_done3.as_cells (moved old new rows))
  moved_pass old new [] h = tt
  moved_pass old new (row ∷ rows) h =
      (of_is n id (row_with row (due_moved old new row.due)) ∙ h.0, moved_pass (Some row.base) (Some (lesser_of row.value (due_moved old new row.due))) rows h.1)

  none_left : (stored : List Row) → filter its (filter others stored) ≡ []
  none_left stored =
      filter_none its (filter others stored) (recursion_from_All (λ row. its row ≡ false) (filter others stored) (All-weaker (λ row. others row ≡ true) (λ row. its row ≡ false) (λ row h. not_true (its row) h) (filter others stored) (filter_passes others stored)))

  all_left : (stored : List Row) → filter others (filter others stored) ≡ filter others stored
  all_left stored = filter_all others (filter others stored) (recursion_from_All (λ row. others row ≡ true) (filter others stored) (filter_passes others stored))

  module _ (made : List Row) (pass : AllByRecursion (λ cells. its cells ≡ true) made) (stored : List Row) where
    those_made : filter its (made ++ filter others stored) ≡ made
    those_made = filter-append its made (filter others stored) ∙ ap₂ (λ (xs ys : List Row). xs ++ ys) (filter_all its made pass) (none_left stored) ∙ append-nil made

    others_left : filter others (made ++ filter others stored) ≡ filter others stored
    others_left =
        filter-append others made (filter others stored)
        ∙ ap₂ (λ (xs ys : List Row). xs ++ ys) (filter_none others made (all_weaker (λ cells. its cells ≡ true) (λ cells. others cells ≡ false) (λ cells h. ap not h) made pass)) (all_left stored)

  -- ── what is left ──

  module _ (old new : Database) (made : IsRemade kept_done3 its (moved None None) old new) where
    abbrev stored : List Row
    stored = rows_in done3 old.trees

    pass : AllByRecursion (λ cells. its cells ≡ true) (map kept_done3.as_cells (moved None None made.were))
    pass = moved_pass None None made.were (of_task n id stored made.were made.exactly)

    those : IsPermutation (map kept_done3.as_cells (moved None None made.were)) (filter its (rows_in done3 new.trees))
    those = subst (λ l. IsPermutation l (filter its (rows_in done3 new.trees))) (those_made (map kept_done3.as_cells (moved None None made.were)) pass stored) (IsPermutation-filter its _ _ made.becomes.rows)

    -- each row of another task or another item stays
    pub others_stay : IsPermutation (filter others stored) (filter others (rows_in done3 new.trees))
    others_stay = subst (λ l. IsPermutation l (filter others (rows_in done3 new.trees))) (others_left (map kept_done3.as_cells (moved None None made.were)) pass stored) (IsPermutation-filter others _ _ made.becomes.rows)

    module _ (low high : ℕ) (rows : List DoneRow) (up : IsRising place low rows high) where
      remade_exactly : IsPermutation (map kept_done3.as_cells rows) (filter its stored) → CanRemake kept_done3 its (moved None None) stored → AreExactly kept_done3 its (rows_in done3 new.trees) (moved None None rows)
      remade_exactly has can =
          let same = in_order n id low high rows up stored has made.were made.exactly in
          record {
            fit = subst (λ l. All kept_done3.Fits (moved None None l)) (in_order n id low high rows up stored has can.were can.exactly) can.fit;
            those = subst (λ l. IsPermutation (filter its (rows_in done3 new.trees)) (map kept_done3.as_cells (moved None None l))) same (IsPermutation-sym _ _ those);
            sorted = moved_sorted None None rows (subst (λ l. IsSorted by_four (map kept_done3.as_cells l)) same made.exactly.sorted);
          }

      remade_whole : (all : List DoneRow) → IsPermutation (map kept_done3.as_cells all) stored → IsPermutation rows (filter (is_done_of n id) all)
          → IsPermutation (map kept_done3.as_cells (moved None None rows ++ filter (λ row. not (is_done_of n id row)) all)) (rows_in done3 new.trees)
      remade_whole all given has =
          let cells = kept_done3.as_cells in
          let left : List DoneRow = filter (λ row. not (is_done_of n id row)) all in
          let own : filter its (map cells all) ≡ map cells (filter (is_done_of n id) all) =
          filter-map its cells all ∙ ap (map cells) (filter_same (λ row. its (cells row)) (is_done_of n id) (of_is n id) all) in
          let other : filter others (map cells all) ≡ map cells left =
          filter-map others cells all ∙ ap (map cells) (filter_same (λ row. others (cells row)) (λ row. not (is_done_of n id row)) (λ row. ap not (of_is n id row)) all) in
          let there : IsPermutation (map cells rows) (filter its stored) =
          IsPermutation-trans _ _ _ (IsPermutation-map cells rows (filter (is_done_of n id) all) has) (subst (λ l. IsPermutation l (filter its stored)) own (IsPermutation-filter its _ _ given)) in
          let same = in_order n id low high rows up stored there made.were made.exactly in
          let stay : IsPermutation (map cells left) (filter others stored) = subst (λ l. IsPermutation l (filter others stored)) other (IsPermutation-filter others _ _ given) in
          let becomes : IsPermutation (map cells (moved None None rows) ++ filter others stored) (rows_in done3 new.trees) =
          subst (λ l. IsPermutation (map cells (moved None None l) ++ filter others stored) (rows_in done3 new.trees)) same made.becomes.rows in
          subst (λ l. IsPermutation l (rows_in done3 new.trees)) (sym (map-append cells (moved None None rows) left))
          (IsPermutation-trans _ _ _ (IsPermutation-append_right (map cells (moved None None rows)) (map cells left) (filter others stored) stay) becomes)

-- ── those of the book with the sector ──

with_sector : (book : List Entry) (doc : List ℕ) (s : Sector) (n : ℕ) (item : Item) (id : List ℕ) → IsBook book → judge book (entry_of doc (Flown s)) ≡ New → act_shape (Flown s) ≡ true → has_item book item ≡ true → item_at book n ≡ Some item
    → moved None None (credited book s n item id) ≡ done_rows_of (book ++ entry_of doc (Flown s) ∷ []) n item id
with_sector book doc s n item id b new shape known at = sym (late_moved book doc s (numbers_flown book s) n item id b) ∙ credited_rebased book doc s n item id b new shape known at

pub books_exactly : (book : List Entry) (doc : List ℕ) (s : Sector) (n : ℕ) (item : Item) (id : List ℕ) (old new : Database) → IsBook book → judge book (entry_of doc (Flown s)) ≡ New → act_shape (Flown s) ≡ true → has_item book item ≡ true → item_at book n ≡ Some item
    → AreDoneRows n id old.trees (credited book s n item id) → CanRemake kept_done3 (is_of n id) (moved None None) (rows_in done3 old.trees) → IsRemade kept_done3 (is_of n id) (moved None None) old new
    → AreExactly kept_done3 (is_of n id) (rows_in done3 new.trees) (done_rows_of (book ++ entry_of doc (Flown s) ∷ []) n item id)
books_exactly book doc s n item id old after b new shape known at has can made =
    subst (AreExactly kept_done3 (is_of n id) (rows_in done3 after.trees)) (with_sector book doc s n item id b new shape known at)
    (remade_exactly n id old after made (line_key 1 0) (line_key (length book + 1) 0) (credited book s n item id) (credited_rise book s n item id b) has can)

pub books_whole : (book : List Entry) (doc : List ℕ) (s : Sector) (n : ℕ) (item : Item) (id : List ℕ) (old new : Database) (rows : List DoneRow) → IsBook book → judge book (entry_of doc (Flown s)) ≡ New → act_shape (Flown s) ≡ true → has_item book item ≡ true → item_at book n ≡ Some item
    → IsPermutation (map kept_done3.as_cells rows) (rows_in done3 old.trees) → IsPermutation (credited book s n item id) (filter (is_done_of n id) rows) → IsRemade kept_done3 (is_of n id) (moved None None) old new
    → IsPermutation (map kept_done3.as_cells (done_rows_of (book ++ entry_of doc (Flown s) ∷ []) n item id ++ filter (λ row. not (is_done_of n id row)) rows)) (rows_in done3 new.trees)
books_whole book doc s n item id old after rows b new shape known at given has made =
    subst (λ xs. IsPermutation (map kept_done3.as_cells (xs ++ filter (λ row. not (is_done_of n id row)) rows)) (rows_in done3 after.trees)) (with_sector book doc s n item id b new shape known at)
    (remade_whole n id old after made (line_key 1 0) (line_key (length book + 1) 0) (credited book s n item id) (credited_rise book s n item id b) rows given has)
