-- The steps that write the total of one item, or its last bases: what the tables stand for behind them.
use Rattle.std.proofs.Common.{◌≡◌, ◌∙◌, inl, ℕ, true, not, List, [], ◌∷◌, ◌++◌, map, filter, take, All, nat_le, None, Some, refl, sym, ap, subst, arith}
use Rattle.std.specs.List.Sorted.{IsPermutation}
use Rattle.std.proofs.lemmas.List.{map-append}
use Rattle.std.proofs.lemmas.List.Elements.{All-filter}
use Rattle.std.proofs.lemmas.List.Sorted.{IsPermutation-append_comm, IsPermutation-refl}
use Rattle.std.proofs.lemmas.Simd.{map-map}
use Rattle.sqlite.specs.Tree.{Trees}
use Rattle.mx_book.specs.commands.Act.{Entry}
use Rattle.mx_book.specs.declared.commands.item.Item.{Item}
use Rattle.mx_book.specs.Programme.{last_of}
use Rattle.mx_base.specs.declared.rows.rows.BaseRow.{BaseRow}
use Rattle.mx_base.specs.declared.rows.rows.TotalRow.{TotalRow}
use Rattle.mx_base.specs.rows.Rows.{FitsAircraft, FitsBase, FitsComponent, FitsDeferral, FitsOpening, FitsRelease, FitsReleaseLine, FitsSector, FitsSpan, FitsTotal}
use Rattle.mx_registers.specs.Registers.{deferral_rows, sector_rows}
use Rattle.mx_registers.specs.kept.Bases.{base_rows}
use Rattle.mx_registers.specs.kept.Fits.{FitRegisters}
use Rattle.mx_registers.specs.kept.Items.{items}
use Rattle.mx_registers.specs.kept.Spans.{span_rows}
use Rattle.mx_registers.specs.kept.Totals.{total_row, total_rows}
use Rattle.mx_registers.proofs.KeptProofs.BaseFits.{bases_fit}
use Rattle.mx_registers.proofs.KeptProofs.FitLemmas.{totals_fit}
use Rattle.mx_registers.proofs.KeptProofs.SpanFits.{fittings_fit, removals_fit}
use Rattle.mx_base.specs.declared.point.Point.{Point}
use Rattle.mx_registers.specs.points.Moves.{last_moved, totals_next}
use Rattle.mx_registers.specs.declared.points.points.TheConstants.{NEWEST_LAYOUT}
use Rattle.mx_registers.specs.points.Points.{moving, next_mark, next_point}
use Rattle.mx_registers.specs.points.Tables.{bases_2, rows_at, sectors_2, spans_2, stands_there, totals_2}
use Rattle.mx_registers.proofs.PointsProofs.MoveLemmas.{bases_written as written_law, totals_moved}
use Rattle.mx_registers.proofs.PointsProofs.NextLemmas.{bases_next}
use Rattle.mx_registers.proofs.PointsProofs.OneBook.{filter_through}
use Rattle.mx_registers.proofs.PointsProofs.PointLemmas.{next_number}
use Rattle.mx_registers.proofs.PointsProofs.StandingLemmas.{always_whole}
use Rattle.mx_layout.specs.TableName.{TableName}
use Rattle.mx_layout.specs.declared.fault.Table.TheVariants as table
use Rattle.mx_layout.specs.kept.Cells.{kept_base2, kept_total2}
use Rattle.mx_layout.proofs.KeptProofs.OntoLemmas.{on_top_keeps}
use Rattle.mx_book_tables.specs.stands.Family.{rows_of, rows_given, is_at, Fit}
use Rattle.mx_book_tables.specs.stands.Stands.{StandsAt}
use Rattle.mx_book_tables.proofs.ReadingProofs.RegisterLemmas.{AreMoved, moved_at_bases, moved_at_totals}
use Rattle.mx_moves.proofs.RowLemmas.{Keeps}
use Rattle.mx_moves.specs.steps.Rows.{MakesRows}
use Rattle.mx_moves.specs.steps.Written.{WritesBases, WritesTotal, bases_of, bases_written, total_written}
use Rattle.mx_moves.proofs.StepsProofs.BatchLemmas.{one_point, point_keeps}
use Rattle.mx_moves.proofs.StepsProofs.StandsLemmas.{stands_next}
use Rattle.mx_moves.proofs.StepsProofs.ThingLemmas.{more_become, next_is, point_fits}

-- ── what is kept fits, since the registers do ──

-- where all sectors and spans stand in the tables that are read, and the deferrals fit
pub registers_fit_with : (at : Point) (trees : Trees) (book : List Entry) → StandsAt at trees book → is_at at table.Sector2 ≡ true → is_at at table.Span2 ≡ true
    → rows_at sectors_2 at book ≡ sector_rows book → rows_at spans_2 at book ≡ span_rows book → All FitsDeferral (deferral_rows book) → FitRegisters book
registers_fit_with at trees book stands flown fitted sectors_are spans_are deferred =
    let all = always_whole at book in
    let fit = stands.rows.fit in
    let spans : All FitsSpan (span_rows book) = subst (All FitsSpan) spans_are (fit table.Span2 fitted) in
    record {
      aircraft = subst (All FitsAircraft) all.aircraft (fit table.Aircraft refl);
      components = subst (All FitsComponent) all.components (fit table.Component refl);
      openings = subst (All FitsOpening) all.openings (fit table.Opening refl);
      sectors = subst (All FitsSector) sectors_are (fit table.Sector2 flown);
      fittings = fittings_fit book spans;
      removals = removals_fit book stands.rows.is_book spans;
      releases = subst (All FitsRelease) all.releases (fit table.Crs refl);
      release_lines = subst (All FitsReleaseLine) all.release_lines (fit table.CrsLine refl);
      deferrals = deferred;
    }

-- where all deferrals, sectors and spans stand in the tables that are read
registers_fit : (at : Point) (trees : Trees) (book : List Entry) → StandsAt at trees book → AreMoved at book → FitRegisters book
registers_fit at trees book stands moved =
    registers_fit_with at trees book stands moved.flown moved.fitted moved.sectors moved.spans (subst (All FitsDeferral) moved.deferrals (stands.rows.fit table.Defect moved.deferred))

fit_at_totals : (mark : ℕ) (trees : Trees) (book : List Entry) → StandsAt (moving 3 mark) trees book → FitRegisters book
fit_at_totals mark trees book stands = registers_fit (moving 3 mark) trees book stands (moved_at_totals mark book)

fit_at_bases : (mark : ℕ) (trees : Trees) (book : List Entry) → StandsAt (moving 4 mark) trees book → FitRegisters book
fit_at_bases mark trees book stands = registers_fit (moving 4 mark) trees book stands (moved_at_bases mark book)

-- ── the total of one item ──

abbrev item_of : TotalRow → ℕ
item_of row = row.item

-- the numbers of the totals are those of the items
numbers_are : (book : List Entry) → map item_of (total_rows book) ≡ map (λ (x : ℕ × Item). x.0) (items book)
numbers_are book = map-map item_of (total_row book) (items book)

-- the item of the next total is the next
pub next_item : (mark : ℕ) (row : TotalRow) (book : List Entry) → totals_next book mark ≡ row ∷ [] → next_mark (moving 3 mark) book ≡ Some row.item
next_item mark row book due =
    ap (λ ns. last_of (take 1 (filter (λ n. not (nat_le n mark)) ns))) (sym (numbers_are book))
    ∙ next_number item_of mark 1 (total_rows book) row [] due ∙ ap (λ rows. Some (last_moved item_of mark rows)) due

none_taken : {X : Type 0} (xs : List X) → take 1 xs ≡ [] → xs ≡ []
none_taken [] e = refl
none_taken (x ∷ xs) e = absurd cc

-- where there is no next total, no item is left
pub no_item : (mark : ℕ) (book : List Entry) → totals_next book mark ≡ [] → next_mark (moving 3 mark) book ≡ None
no_item mark book none =
    ap (λ ns. last_of (take 1 (filter (λ n. not (nat_le n mark)) ns))) (sym (numbers_are book))
    ∙ ap (λ l. last_of (take 1 l)) (filter_through item_of (λ n. not (nat_le n mark)) (total_rows book) ∙ ap (map item_of) (none_taken (filter (λ (row : TotalRow). not (nat_le row.item mark)) (total_rows book)) none))

module _ (mark : ℕ) (row : TotalRow) (book : List Entry) (due : totals_next book mark ≡ row ∷ []) where
  -- the table has the total with those from before
  total_brought : rows_at totals_2 (moving 3 row.item) book ≡ rows_at totals_2 (moving 3 mark) book ++ row ∷ []
  total_brought = subst (λ rows. rows_at totals_2 (moving 3 (last_moved item_of mark rows)) book ≡ rows_at totals_2 (moving 3 mark) book ++ rows) due (totals_moved book mark)

  totals_become : IsPermutation (kept_total2.as_cells row ∷ map kept_total2.as_cells (rows_at totals_2 (moving 3 mark) book)) (map kept_total2.as_cells (rows_at totals_2 (moving 3 row.item) book))
  totals_become =
      let had = rows_at totals_2 (moving 3 mark) book in
      subst (IsPermutation (kept_total2.as_cells row ∷ map kept_total2.as_cells had)) (sym (map-append kept_total2.as_cells had (row ∷ [])) ∙ ap (map kept_total2.as_cells) (sym total_brought))
      (IsPermutation-append_comm (map kept_total2.as_cells (row ∷ [])) (map kept_total2.as_cells had))

  total_becomes : (name : TableName) → is_at (moving 3 row.item) name ≡ true → IsPermutation (total_written row (moving 3 row.item) name (rows_given (moving 3 mark) book name)) (rows_given (moving 3 row.item) book name)
  total_becomes table.Office there = one_point (moving 3 mark) (moving 3 row.item)
  total_becomes table.Total2 there = totals_become
  total_becomes name there = IsPermutation-refl (rows_given (moving 3 mark) book name)

  total_fits : (trees : Trees) → StandsAt (moving 3 mark) trees book → (name : TableName) → is_at (moving 3 row.item) name ≡ true → Fit (rows_of name) (moving 3 row.item) book
  total_fits trees stands table.Total2 there = All-filter (λ (r : TotalRow). stands_there totals_2 (moving 3 row.item) r.item) FitsTotal (total_rows book) (totals_fit book stands.rows.is_book (fit_at_totals mark trees book stands))
  total_fits trees stands name there = stands.rows.fit name there

same_at_totals : (mark item : ℕ) (name : TableName) → is_at (moving 3 item) name ≡ true → is_at (moving 3 mark) name ≡ true
same_at_totals mark item table.Office there = refl
same_at_totals mark item name there = there

total_keeps : (row : TotalRow) (to : Point) (name : TableName) → Keeps (total_written row to) name
total_keeps row to name xs ys same = on_top_keeps kept_total2 (row ∷ []) name _ _ (point_keeps to name xs ys same)

-- the tables stand for the same book, at the point of the item
pub total_stands : (mark : ℕ) (row : TotalRow) (at to : Point) (book : List Entry) (old new : Trees) → at ≡ moving 3 mark → totals_next book mark ≡ row ∷ [] → StandsAt at old book → WritesTotal row to old new → (to ≡ next_point at book) × StandsAt to new book
total_stands mark row at to book old new here due stood it =
    let stands = subst (λ q. StandsAt q old book) here stood in
    let b = stands.rows.is_book in
    let next = next_item mark row book due in
    let made = subst (λ q. MakesRows (total_written row q) q old new) it.point it.made in
    let done = stands_next (moving 3 mark) (moving 3 row.item) book (total_written row (moving 3 row.item)) old new (point_fits NEWEST_LAYOUT 1 3 mark row.item (omega arith) (omega arith) (omega arith) refl book b next (omega arith) (omega arith)) (total_fits mark row book due old stands)
    (λ name there. inl (same_at_totals mark row.item name there, total_keeps row (moving 3 row.item) name)) (total_becomes mark row book due) stands made in
    (it.point ∙ sym (next_is NEWEST_LAYOUT 1 3 mark row.item (omega arith) (omega arith) (omega arith) refl book b next) ∙ ap (λ q. next_point q book) (sym here), subst (λ q. StandsAt q new book) (sym it.point) done)

-- ── the last bases of one item ──

module _ (mark item : ℕ) (rows : List BaseRow) (book : List Entry) (due : next_mark (moving 4 mark) book ≡ Some item) (are : IsPermutation rows (bases_of book item)) where
  -- the table has the bases of the item with those from before
  rows_become : IsPermutation (map kept_base2.as_cells rows ++ map kept_base2.as_cells (rows_at bases_2 (moving 4 mark) book)) (map kept_base2.as_cells (rows_at bases_2 (moving 4 item) book))
  rows_become = more_become kept_base2 rows (bases_of book item) (rows_at bases_2 (moving 4 mark) book) (rows_at bases_2 (moving 4 item) book) are (written_law book mark item (bases_next book mark item due))

  bases_become : (name : TableName) → is_at (moving 4 item) name ≡ true → IsPermutation (bases_written rows (moving 4 item) name (rows_given (moving 4 mark) book name)) (rows_given (moving 4 item) book name)
  bases_become table.Office there = one_point (moving 4 mark) (moving 4 item)
  bases_become table.Base2 there = rows_become
  bases_become name there = IsPermutation-refl (rows_given (moving 4 mark) book name)

  rows_fit : (trees : Trees) → StandsAt (moving 4 mark) trees book → (name : TableName) → is_at (moving 4 item) name ≡ true → Fit (rows_of name) (moving 4 item) book
  rows_fit trees stands table.Base2 there = All-filter (λ (r : BaseRow). stands_there bases_2 (moving 4 item) r.item) FitsBase (base_rows book) (bases_fit book stands.rows.is_book (fit_at_bases mark trees book stands))
  rows_fit trees stands name there = stands.rows.fit name there

same_at_bases : (mark item : ℕ) (name : TableName) → is_at (moving 4 item) name ≡ true → is_at (moving 4 mark) name ≡ true
same_at_bases mark item table.Office there = refl
same_at_bases mark item name there = there

bases_keep : (rows : List BaseRow) (to : Point) (name : TableName) → Keeps (bases_written rows to) name
bases_keep rows to name xs ys same = on_top_keeps kept_base2 rows name _ _ (point_keeps to name xs ys same)

-- the tables stand for the same book, at the point of the item
pub bases_stand : (mark item : ℕ) (rows : List BaseRow) (at to : Point) (book : List Entry) (old new : Trees) → at ≡ moving 4 mark → (next_mark at book ≡ Some item) × IsPermutation rows (bases_of book item) → StandsAt at old book → WritesBases item rows to old new → (to ≡ next_point at book) × StandsAt to new book
bases_stand mark item rows at to book old new here due stood it =
    let stands = subst (λ q. StandsAt q old book) here stood in
    let b = stands.rows.is_book in
    let next : next_mark (moving 4 mark) book ≡ Some item = ap (λ q. next_mark q book) (sym here) ∙ due.0 in
    let made = subst (λ q. MakesRows (bases_written rows q) q old new) it.point it.made in
    let done = stands_next (moving 4 mark) (moving 4 item) book (bases_written rows (moving 4 item)) old new (point_fits NEWEST_LAYOUT 1 4 mark item (omega arith) (omega arith) (omega arith) refl book b next (omega arith) (omega arith)) (rows_fit mark item rows book next due.1 old stands)
    (λ name there. inl (same_at_bases mark item name there, bases_keep rows (moving 4 item) name)) (bases_become mark item rows book next due.1) stands made in
    (it.point ∙ sym (next_is NEWEST_LAYOUT 1 4 mark item (omega arith) (omega arith) (omega arith) refl book b next) ∙ ap (λ q. next_point q book) (sym here), subst (λ q. StandsAt q new book) (sym it.point) done)
