-- The lines of all releases: those that have the number of a defect, and whether there is one.
use Rattle.std.proofs.Common.{◌≡◌, ◌||◌, ◌∙◌, ℕ, pos, Bool, true, false, cond, List, [], ◌∷◌, map, filter, None, is_some, is_lt, slice_get, refl, sym, ap, subst, IsPermutation, IsSorted}
use Rattle.std.specs.Cmp.{IsStrictWeakOrder, IsTotalOrder, on_total, then_total}
use Rattle.std.specs.List.{list_any}
use Rattle.std.proofs.lemmas.List.Elements.{All-filter}
use Rattle.std.proofs.lemmas.List.Kept.{IsSortedBy-filter}
use Rattle.std.proofs.lemmas.List.MinMax.{ranks_by}
use Rattle.sqlite.specs.declared.types.Value.TheVariants.{Int}
use Rattle.sqlite.specs.Order.{Row, column}
use Rattle.sqlite.specs.Tree.{Trees}
use Rattle.sqlite_keyed.proofs.ListLemmas.{filter-map, filter_same, IsPermutation-filter}
use Rattle.sqlite_value.proofs.OrderLemmas.{value_cmp_total}
use Rattle.mx_base.specs.declared.rows.rows.ReleaseLineRow.{ReleaseLineRow}
use Rattle.mx_layout.specs.Contents.{rows_in}
use Rattle.mx_layout.specs.Names.{table_named}
use Rattle.mx_layout.specs.Reading.{by_two}
use Rattle.mx_layout.specs.kept.Cells.{kept_crs_line}
use Rattle.mx_table_rows.specs.chosen.Choices.{has_value, is_any}
use Rattle.mx_row_rules.specs.found.Defects.{is_rectified_in, rectifies}
use Rattle.mx_lookups.specs.numbers.AnyRows.{AreChosen}
use Rattle.mx_lookups.proofs.NumbersProofs.BookRows.{some_number}
use Rattle.mx_lookups.proofs.NumbersProofs.LookupLemmas.{each_passes}

-- any two rows compare by two columns
two_columns : IsTotalOrder by_two
two_columns = then_total (on_total (λ r. column r 0) value_cmp_total) (on_total (λ r. column r 1) value_cmp_total)

ranks : IsStrictWeakOrder (λ (a b : Row). is_lt (by_two a b))
ranks = ranks_by two_columns (λ (r : Row). r)

-- of all lines, those that have the number of a defect are the ones that are chosen by it
pub lines_chosen : (trees : Trees) (n : ℕ) (lines : List ReleaseLineRow) → AreChosen kept_crs_line None kept_crs_line.order is_any trees lines → AreChosen kept_crs_line None kept_crs_line.order (has_value 4 (Int (pos n))) trees (filter (rectifies n) lines)
lines_chosen trees n lines all =
    let has = has_value 4 (Int (pos n)) in
    let stored = rows_in (table_named kept_crs_line.name) trees in
    let cells = map kept_crs_line.as_cells lines in
    let shown : IsPermutation stored cells = subst (λ l. IsPermutation l cells) (each_passes stored) (subst (IsPermutation (filter is_any stored)) (sym all.are.first) all.are.are.all) in
    let sorted : IsSorted by_two cells = subst (IsSorted by_two) (sym all.are.first) all.are.are.sorted in
    let same : filter has cells ≡ map kept_crs_line.as_cells (filter (rectifies n) lines) =
    filter-map has kept_crs_line.as_cells lines ∙ ap (map kept_crs_line.as_cells) (filter_same (λ x. has (kept_crs_line.as_cells x)) (rectifies n) (λ row. some_number row.defect n) lines) in
    record {
      are = record {
        those = map kept_crs_line.as_cells (filter (rectifies n) lines);
        are = record {
          all = subst (IsPermutation (filter has stored)) same (IsPermutation-filter has stored cells shown);
          sorted = subst (IsSorted by_two) same (IsSortedBy-filter (λ a b. is_lt (by_two a b)) ranks has cells sorted);
        };
        first = refl;
      };
      fit = All-filter (rectifies n) kept_crs_line.Fits lines all.fit;
    }

-- there is one where one passes
pub any_found : (n : ℕ) (lines : List ReleaseLineRow) → list_any (rectifies n) lines ≡ is_rectified_in (filter (rectifies n) lines)
any_found n [] = refl
any_found n (line ∷ lines) =
    elim (rectifies n line) as (λ b. (b || list_any (rectifies n) lines) ≡ is_rectified_in (cond b (line ∷ filter (rectifies n) lines) (filter (rectifies n) lines)))
    [ true ↦ refl | false ↦ any_found n lines ]
