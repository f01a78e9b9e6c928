-- Accomplishments of a task of an item that are read in the order of the table stand in that of their entries and of the lines there.
use Rattle.std.proofs.Common.{◌≡◌, ◌∙◌, ℕ, ◌≤◌, pos, true, false, ◌&&◌, List, [], ◌∷◌, map, filter, refl, sym, ap, ap₂, subst}
use Rattle.std.specs.Prelude.{All, IsPermutation, IsSorted, nat_eq}
use Rattle.std.specs.Cmp.{tied_itself}
use Rattle.std.specs.List.{AllByRecursion}
use Rattle.std.specs.Ordering.{is_lt, ordering_then}
use Rattle.std.specs.declared.cmp.Ordering.{Ordering}
use Rattle.std.proofs.lemmas.Bool.Decides.{Decides-eqb}
use Rattle.std.proofs.lemmas.List.Elements.{All-from_recursion, filter_passes, recursion_from_All}
use Rattle.std.proofs.lemmas.List.Sorted.{All-permutation, IsPermutation-map, IsPermutation-trans}
use Rattle.sqlite.specs.Order.{Row, value_cmp}
use Rattle.sqlite.specs.declared.types.Value.{Value}
use Rattle.sqlite.specs.declared.types.Value.TheVariants.{Int, Text}
use Rattle.sqlite_value.proofs.OrderLemmas.{value_cmp_total}
use Rattle.mx_base.specs.declared.rows.rows.DoneRow.{DoneRow}
use Rattle.mx_base.specs.rows.Rising.{IsFrom, IsRising}
use Rattle.mx_base.specs.rows.Rows.{FitsDone, line_key}
use Rattle.mx_base.proofs.RowsProofs.SortedLemmas.{sorted_once}
use Rattle.mx_book.specs.commands.Same.{same_text}
use Rattle.mx_book.proofs.CommandsProofs.SameLemmas.{text_same}
use Rattle.mx_book.proofs.JudgeLemmas.{both_true}
use Rattle.mx_registers.specs.late.Done.{is_done_of}
use Rattle.mx_layout.specs.Reading.{by_four}
use Rattle.mx_layout.specs.kept.Cells.{kept_done3}
use Rattle.mx_layout.proofs.KeptProofs.OrderLemmas.{ascends, by_parts}
use Rattle.mx_layout.proofs.KeptProofs.ValueLemmas.{limit_at, limit_back, number_at, text_at}
use Rattle.mx_table_rows.specs.totals.Several.{AreExactly}
use Rattle.mx_lookups.specs.numbers.Given.{is_of}
use Rattle.mx_lookups.proofs.NumbersProofs.LookupLemmas.{number_is, text_is}

-- ── an accomplishment by its cells ──

abbrev back : Row → DoneRow
back row = record {
  item = number_at row 0;
  task = text_at row 1;
  seq = number_at row 2;
  line = number_at row 3;
  value = record { minutes = number_at row 4; cycles = number_at row 5; day = number_at row 6 };
  due = limit_at row 7;
  base = record { minutes = number_at row 10; cycles = number_at row 11; day = number_at row 12 };
}

back_is : (row : DoneRow) → back (kept_done3.as_cells row) ≡ row
back_is r i = record { item = r.item; task = r.task; seq = r.seq; line = r.line; value = r.value; due = limit_back r.due i; base = r.base }

all_back : (rows : List DoneRow) → map back (map kept_done3.as_cells rows) ≡ rows
all_back [] = refl
all_back (row ∷ rows) = ap₂ (λ (x : DoneRow) (xs : List DoneRow). x ∷ xs) (back_is row) (all_back rows)

-- what has the same cells in another order is the same in another order, whether it fits or not
same_rows : (xs ys : List DoneRow) → IsPermutation (map kept_done3.as_cells xs) (map kept_done3.as_cells ys) → IsPermutation xs ys
same_rows xs ys same =
    subst (λ l. IsPermutation l ys) (all_back xs) (subst (IsPermutation (map back (map kept_done3.as_cells xs))) (all_back ys) (IsPermutation-map back (map kept_done3.as_cells xs) (map kept_done3.as_cells ys) same))

-- ── in the order of the entries and of their lines ──

-- what is the same decides nothing
past_same : (a : Value) (o : Ordering) → is_lt (ordering_then (value_cmp a a) o) ≡ false → is_lt o ≡ false
past_same a o h = subst (λ first. is_lt (ordering_then first o) ≡ false) (tied_itself value_cmp_total a) h

abbrev pub place : DoneRow → ℕ
place row = line_key row.seq row.line

module _ (n : ℕ) (id : List ℕ) where
  -- the row, as one of the task of the item with the number
  abbrev as_its : DoneRow → DoneRow
  as_its row = record row { item = n; task = id }

  its : (row : DoneRow) → is_done_of n id row ≡ true → as_its row ≡ row
  its row is =
      let parts = both_true (nat_eq row.item n) (same_text row.task id) is in
      sym (ap₂ (λ (m : ℕ) (t : List ℕ). record row { item = m; task = t }) ((Decides-eqb row.item n).0 parts.0) ((text_same row.task id).0 parts.1))

  all_its : (rows : List DoneRow) → AllByRecursion (λ row. is_done_of n id row ≡ true) rows → map (λ row. kept_done3.as_cells (as_its row)) rows ≡ map kept_done3.as_cells rows
  all_its [] are = refl
  all_its (row ∷ rows) are = ap₂ (λ (cells : Row) (more : List Row). cells ∷ more) (ap kept_done3.as_cells (its row are.0)) (all_its rows are.1)

  up : (x y : DoneRow) → FitsDone x → is_lt (by_four (kept_done3.as_cells (as_its y)) (kept_done3.as_cells (as_its x))) ≡ false → place x ≤ place y
  up x y fits h = by_parts x.seq x.line y.seq y.line fits.line _ refl (past_same (Text id) _ (past_same (Int (pos n)) _ h))

  -- rows of the task that were read in the order of the table ascend by their entries and lines
  ascending : (rows : List DoneRow) → All FitsDone rows → All (λ row. is_done_of n id row ≡ true) rows → IsSorted by_four (map kept_done3.as_cells rows) → IsFrom place 0 rows
  ascending rows fits are sorted = ascends (λ row. kept_done3.as_cells (as_its row)) FitsDone by_four place up rows fits (subst (IsSorted by_four) (sym (all_its rows (recursion_from_All (λ row. is_done_of n id row ≡ true) rows are))) sorted)

  -- ── by their cells ──

  pub of_is : (row : DoneRow) → is_of n id (kept_done3.as_cells row) ≡ is_done_of n id row
  of_is row = ap₂ ◌&&◌ (number_is row.item n) (text_is row.task id)

  passed : (rows : List DoneRow) → AllByRecursion (λ cells. is_of n id cells ≡ true) (map kept_done3.as_cells rows) → AllByRecursion (λ row. is_done_of n id row ≡ true) rows
  passed [] h = tt
  passed (row ∷ rows) h = (sym (of_is row) ∙ h.0, passed rows h.1)

  -- what was read is of the task
  pub of_task : (stored : List Row) (rows : List DoneRow) → AreExactly kept_done3 (is_of n id) stored rows → AllByRecursion (λ row. is_done_of n id row ≡ true) rows
  of_task stored rows are =
      let cells = map kept_done3.as_cells rows in
      passed rows (recursion_from_All (λ row. is_of n id row ≡ true) cells (All-permutation (λ row. is_of n id row ≡ true) (filter (is_of n id) stored) cells are.those (filter_passes (is_of n id) stored)))

  -- rows that rise by their entries and lines are read in this order
  pub in_order : (low high : ℕ) (rows : List DoneRow) → IsRising place low rows high → (stored : List Row) → IsPermutation (map kept_done3.as_cells rows) (filter (is_of n id) stored) → (read : List DoneRow) → AreExactly kept_done3 (is_of n id) stored read → read ≡ rows
  in_order low high rows rise stored has read are =
      let there = same_rows rows read (IsPermutation-trans _ _ _ has are.those) in
      sym (sorted_once place low 0 high rows read rise (ascending read are.fit (All-from_recursion (λ row. is_done_of n id row ≡ true) read (of_task stored read are)) are.sorted) there)
