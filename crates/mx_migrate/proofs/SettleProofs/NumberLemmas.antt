-- The rows of a book have numbers that entries can have.
use Rattle.std.proofs.Common.{◌≡◌, ℕ, ◌+◌, ◌*◌, ◌^◌, ◌<◌, ◌≤◌, Bool, true, false, cond, ◌||◌, suc, length, List, [], ◌∷◌, ◌++◌, map, All, Option, None, Some, refl, ap₂, arith}
use Rattle.std.specs.List.{list_any}
use Rattle.std.specs.List.Sorted.{IsPermutation}
use Rattle.std.proofs.lemmas.Bool.Decides.{nat_tests}
use Rattle.std.proofs.lemmas.List.{length-append}
use Rattle.std.proofs.lemmas.List.Elements.{All-append, All-cons, All-head, All-nil, All-tail, All-weaker}
use Rattle.std.proofs.lemmas.List.Sorted.{All-permutation, IsPermutation-sym}
use Rattle.mx_book.specs.commands.Act.{Entry}
use Rattle.mx_book.specs.Book.{IsBook}
use Rattle.mx_book.specs.Span.{Span, span_begun}
use Rattle.mx_book.specs.declared.limits.TheConstants.{MOST_ENTRIES}
use Rattle.mx_base.specs.rows.Rising.{IsRising}
use Rattle.mx_base.specs.rows.Rows.{line_key}
use Rattle.mx_base.specs.declared.rows.rows.AircraftRow.{AircraftRow}
use Rattle.mx_base.specs.declared.rows.rows.ComponentRow.{ComponentRow}
use Rattle.mx_base.specs.declared.rows.rows.DeferralRow.{DeferralRow}
use Rattle.mx_base.specs.declared.rows.rows.EntryRow.{EntryRow}
use Rattle.mx_base.specs.declared.rows.rows.ExtensionRow.{ExtensionRow}
use Rattle.mx_base.specs.declared.rows.rows.OpeningRow.{OpeningRow}
use Rattle.mx_base.specs.declared.rows.rows.PlaceRow.{PlaceRow}
use Rattle.mx_base.specs.declared.rows.rows.ProgrammeRow.{ProgrammeRow}
use Rattle.mx_base.specs.declared.rows.rows.ReleaseLineRow.{ReleaseLineRow}
use Rattle.mx_base.specs.declared.rows.rows.ReleaseRow.{ReleaseRow}
use Rattle.mx_base.specs.declared.rows.rows.SectorRow.{SectorRow}
use Rattle.mx_base.specs.declared.rows.rows.SpanRow.{SpanRow}
use Rattle.mx_base.specs.declared.rows.rows.TaskRow.{TaskRow}
use Rattle.mx_base.proofs.RowsProofs.SortedLemmas.{keys_below}
use Rattle.mx_registers.specs.Registers.{aircraft_rows, component_rows, deferral_rows, entry_rows, extension_rows, next, opening_rows, place_rows, programme_rows, release_line_rows, release_rows, sector_rows, task_rows}
use Rattle.mx_registers.proofs.RegisterLemmas.{aircraft_rows-rising, component_rows-rising, deferral_rows-rising, entry_rows-rising, extension_rows-rising, opening_rows-rising, place_rows-rising, programme_rows-rising, release_line_rows-rising, release_rows-rising, sector_rows-rising, task_rows-rising}
use Rattle.mx_registers.specs.kept.Spans.{removal_from, removes, span_row, span_rows, span_rows_from}
use Rattle.mx_layout.specs.TableName.{TableName}
use Rattle.mx_layout.specs.declared.fault.Table.TheVariants as table
use Rattle.mx_registers.specs.file.Tables.{AreRegistersIn}
use Rattle.mx_registers.specs.declared.file.file_rows.FileRows.{FileRows}
use Rattle.mx_migrate.specs.settle.Numbers.{has_late, is_late, is_late_end, is_late_span, late_table, or_behind}

-- ── rows with one number ──

early : (n : ℕ) → n < MOST_ENTRIES + 1 → is_late n ≡ false
early n h = grind (arith, nat_tests)

none_late : {Row : Type 0} (number : Row → ℕ) (rows : List Row) → All (λ row. number row < MOST_ENTRIES + 1) rows → has_late number rows ≡ false
none_late number [] few = refl
none_late number (row ∷ rows) few =
    ap₂ ◌||◌ (early (number row) (All-head (λ r. number r < MOST_ENTRIES + 1) row rows few)) (none_late number rows (All-tail (λ r. number r < MOST_ENTRIES + 1) row rows few))

-- the rows of a table, in any order, have numbers below a bound that those of a book have
of_table : {Row : Type 0} (number : Row → ℕ) (rows given : List Row) → IsPermutation rows given → All (λ row. number row < MOST_ENTRIES + 1) given → has_late number rows ≡ false
of_table number rows given same few = none_late number rows (All-permutation (λ row. number row < MOST_ENTRIES + 1) given rows (IsPermutation-sym rows given same) few)

module _ (book : List Entry) (b : IsBook book) where
  most : length book + 1 ≤ MOST_ENTRIES + 1
  most = let few = b.few in omega arith

  of_numbers : {Row : Type 0} (number : Row → ℕ) (rows given : List Row) → IsPermutation rows given → IsRising number 1 given (length book + 1) → has_late number rows ≡ false
  of_numbers number rows given same up =
      of_table number rows given same
      (All-weaker (λ row. number row < length book + 1) (λ row. number row < MOST_ENTRIES + 1) (λ row under. omega (arith, under, most)) given (keys_below number 1 (length book + 1) given up))

  -- rows that stand on lines of entries
  of_lines : {Row : Type 0} (number line : Row → ℕ) (rows given : List Row) → IsPermutation rows given
      → IsRising (λ row. line_key (number row) (line row)) (1 * 2 ^ 32) given ((length book + 1) * 2 ^ 32) → has_late number rows ≡ false
  of_lines number line rows given same up =
      of_table number rows given same
      (All-weaker (λ row. line_key (number row) (line row) < (length book + 1) * 2 ^ 32) (λ row. number row < MOST_ENTRIES + 1) (λ row under. omega (arith, under, most)) given
      (keys_below (λ row. line_key (number row) (line row)) (1 * 2 ^ 32) ((length book + 1) * 2 ^ 32) given up))

-- ── spans ──

removal_below : (serial : List ℕ) (k n : ℕ) (later : List Entry) → removal_from serial k later ≡ Some n → n < k + length later
removal_below serial k n [] is = absurd cc
removal_below serial k n (entry ∷ later) is = at (removes serial entry.act) is (removal_below serial (k + 1) n later)
  where
    at : (b : Bool) → cond b (Some k) (removal_from serial (k + 1) later) ≡ Some n → (removal_from serial (k + 1) later ≡ Some n → n < k + 1 + length later) → n < k + suc (length later)
    at true e under = let same : k ≡ n = cc in omega (arith, same)
    at false e under = omega (arith, under e)

-- the numbers of a span are below this one
abbrev IsBelow : ℕ → SpanRow → Type 0
IsBelow high row = (row.fit_seq < high) × ((n : ℕ) → row.remove_seq ≡ Some n → n < high)

begun_below : (before later : List Entry) (high : ℕ) → next before + 1 + length later ≤ high → (spans : List Span) → All (IsBelow high) (map (span_row before later) spans)
begun_below before later high room [] = All-nil (IsBelow high)
begun_below before later high room (s ∷ spans) =
    All-cons (IsBelow high) (span_row before later s) (map (span_row before later) spans)
    (omega (arith, room), λ n is. (let under = removal_below s.serial (next before + 1) n later is in omega (arith, under, room)))
    (begun_below before later high room spans)

spans_below : (before later : List Entry) (high : ℕ) → next before + length later ≤ high → All (IsBelow high) (span_rows_from before later)
spans_below before [] high room = All-nil (IsBelow high)
spans_below before (entry ∷ later) high room =
    let longer = length-append before (entry ∷ []) in
    All-append (IsBelow high) (map (span_row before later) (span_begun entry.act later)) (span_rows_from (before ++ entry ∷ []) later)
    (begun_below before later high (omega (arith, room)) (span_begun entry.act later))
    (spans_below (before ++ entry ∷ []) later high (omega (arith, room, longer)))

end_early : (end : Option ℕ) → ((n : ℕ) → end ≡ Some n → n < MOST_ENTRIES + 1) → is_late_end end ≡ false
end_early None few = refl
end_early (Some n) few = early n (few n refl)

none_late_span : (rows : List SpanRow) → All (IsBelow (MOST_ENTRIES + 1)) rows → list_any is_late_span rows ≡ false
none_late_span [] few = refl
none_late_span (row ∷ rows) few =
    let first = All-head (IsBelow (MOST_ENTRIES + 1)) row rows few in
    ap₂ ◌||◌ (ap₂ ◌||◌ (early row.fit_seq first.0) (end_early row.remove_seq first.1)) (none_late_span rows (All-tail (IsBelow (MOST_ENTRIES + 1)) row rows few))

spans_of_book : (book : List Entry) (rows : List SpanRow) → IsBook book → IsPermutation rows (span_rows book) → list_any is_late_span rows ≡ false
spans_of_book book rows b same =
    let few = b.few in
    none_late_span rows (All-permutation (IsBelow (MOST_ENTRIES + 1)) (span_rows book) rows (IsPermutation-sym rows (span_rows book) same) (spans_below [] book (MOST_ENTRIES + 1) (omega (arith, few))))

-- ── all registers ──

behind_none : (late : Bool) (name : TableName) (behind : Option TableName) → late ≡ false → behind ≡ None → or_behind late name behind ≡ None
behind_none late name behind none found = ap₂ (λ l o. or_behind l name o) none found

-- the rows of a book have none whose number no entry can have
pub late_none : (rows : FileRows) (book : List Entry) → IsBook book → AreRegistersIn rows book → late_table rows ≡ None
late_none rows book b are =
    let own = rows.registers.rows in
    let shaped = b.shaped in
    behind_none _ table.Entry _ (of_numbers book b (λ (row : EntryRow). row.seq) rows.registers.entries.items (entry_rows book) are.entries (entry_rows-rising book shaped))
    (behind_none _ table.Aircraft _ (of_numbers book b (λ (row : AircraftRow). row.seq) own.aircraft.items (aircraft_rows book) are.aircraft (aircraft_rows-rising book shaped))
    (behind_none _ table.Place _ (of_lines book b (λ (row : PlaceRow). row.seq) (λ row. row.line) own.places.items (place_rows book) are.places (place_rows-rising book shaped))
    (behind_none _ table.Component _ (of_numbers book b (λ (row : ComponentRow). row.seq) own.components.items (component_rows book) are.components (component_rows-rising book shaped))
    (behind_none _ table.Programme _ (of_numbers book b (λ (row : ProgrammeRow). row.seq) own.programmes.items (programme_rows book) are.programmes (programme_rows-rising book shaped))
    (behind_none _ table.Task _ (of_lines book b (λ (row : TaskRow). row.seq) (λ row. row.line) own.tasks.items (task_rows book) are.tasks (task_rows-rising book shaped))
    (behind_none _ table.Opening _ (of_numbers book b (λ (row : OpeningRow). row.seq) own.openings.items (opening_rows book) are.openings (opening_rows-rising book shaped))
    (behind_none _ table.Crs _ (of_numbers book b (λ (row : ReleaseRow). row.seq) own.releases.items (release_rows book) are.releases (release_rows-rising book shaped))
    (behind_none _ table.CrsLine _ (of_lines book b (λ (row : ReleaseLineRow). row.seq) (λ row. row.line) own.release_lines.items (release_line_rows book) are.release_lines (release_line_rows-rising book shaped))
    (behind_none _ table.Defect _ (of_numbers book b (λ (row : DeferralRow). row.seq) own.deferrals.items (deferral_rows book) are.deferrals (deferral_rows-rising book shaped))
    (behind_none _ table.Extension _ (of_numbers book b (λ (row : ExtensionRow). row.seq) own.extensions.items (extension_rows book) are.extensions (extension_rows-rising book shaped))
    (behind_none _ table.Sector2 _ (of_numbers book b (λ (row : SectorRow). row.seq) own.sectors.items (sector_rows book) are.sectors (sector_rows-rising book shaped))
    (behind_none _ table.Span2 None (spans_of_book book rows.spans.items b are.spans) refl))))))))))))
