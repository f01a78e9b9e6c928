-- Rows in the order of their keys are those of a book exactly where the rows are as sets.
use Rattle.std.proofs.Common.{◌≡◌, ℕ, ◌+◌, ◌*◌, ◌^◌, true, List, [], ◌∷◌, length, map, refl, sym, ap, subst, ◌∙◌}
use Rattle.std.specs.Prelude.{filter, IsPermutation}
use Rattle.std.specs.List.{filter_map}
use Rattle.std.proofs.lemmas.List.Sorted.{IsPermutation-sym, IsPermutation-trans}
use Rattle.mx_book.specs.commands.Act.{Entry}
use Rattle.mx_book.specs.Book.{IsBook}
use Rattle.mx_base.specs.rows.Rising.{IsRising}
use Rattle.mx_base.specs.rows.Rows.{place_key, release_line_key, task_key}
use Rattle.mx_base.specs.declared.rows.rows.AircraftRow.{AircraftRow}
use Rattle.mx_base.specs.declared.rows.rows.ComponentRow.{ComponentRow}
use Rattle.mx_base.specs.declared.rows.rows.DeferralRow.{DeferralRow}
use Rattle.mx_base.specs.declared.rows.rows.EntryRow.{EntryRow}
use Rattle.mx_base.specs.declared.rows.rows.ExtensionRow.{ExtensionRow}
use Rattle.mx_base.specs.declared.rows.rows.FittingRow.{FittingRow}
use Rattle.mx_base.specs.declared.rows.rows.OpeningRow.{OpeningRow}
use Rattle.mx_base.specs.declared.rows.rows.ProgrammeRow.{ProgrammeRow}
use Rattle.mx_base.specs.declared.rows.rows.ReleaseRow.{ReleaseRow}
use Rattle.mx_base.specs.declared.rows.rows.RemovalRow.{RemovalRow}
use Rattle.mx_base.specs.declared.rows.rows.SectorRow.{SectorRow}
use Rattle.mx_base.specs.declared.rows.rows.SpanRow.{SpanRow}
use Rattle.mx_base.proofs.RowsProofs.SortedLemmas.{sorted_once}
use Rattle.mx_registers.specs.Registers.{AreRegistersOf, aircraft_rows, component_rows, deferral_rows, entry_rows, extension_rows, opening_rows, place_rows, programme_rows, release_line_rows, release_rows, removal_rows, sector_rows, task_rows}
use Rattle.mx_registers.proofs.RegisterLemmas.{aircraft_rows-rising, component_rows-rising, deferral_rows-rising, entry_rows-rising, extension_rows-rising, fitting_rows-rising, opening_rows-rising, place_rows-rising, programme_rows-rising, release_line_rows-rising, release_rows-rising, removal_rows-rising, sector_rows-rising, task_rows-rising}
use Rattle.mx_registers.specs.kept.Spans.{fitting_in, removal_in, span_rows}
use Rattle.mx_registers.proofs.KeptProofs.SpanRegisters.{fittings_in_spans, removals_in_spans}
use Rattle.mx_registers.specs.file.Tables.{AreRegistersIn}
use Rattle.mx_registers.specs.file.Sorted.{ArePut}
use Rattle.mx_registers.specs.file.Tables.{AreFilePut}
use Rattle.mx_registers.specs.declared.file.file_rows.FileRows.{FileRows}

-- rows that are put in order are a rising list where they are its rows
pub put_is : {Row : Type 0} (key : Row → ℕ) (low high : ℕ) (rising rows put : List Row) → IsRising key low rising high → ArePut key rows put → IsPermutation rows rising → put ≡ rising
put_is key low high rising rows put up p same = sym (sorted_once key low 0 high rising put up p.order (IsPermutation-trans rising rows put (IsPermutation-sym rows rising same) p.same))

-- and they are its rows where they are the list
pub put_of : {Row : Type 0} (key : Row → ℕ) (rising rows put : List Row) → ArePut key rows put → put ≡ rising → IsPermutation rows rising
put_of key rising rows put p e = subst (λ (l : List _). IsPermutation rows l) e p.same

-- ── spans ──

rising_unmapped : (low high : ℕ) (rows : List SpanRow) → IsRising (λ (row : FittingRow). row.seq) low (map fitting_in rows) high → IsRising (λ (row : SpanRow). row.fit_seq) low rows high
rising_unmapped low high [] up = up
rising_unmapped low high (row ∷ rows) up = (up.0, rising_unmapped (row.fit_seq + 1) high rows up.1)

-- the spans of a book are in the order of the fittings
span_rows-rising : (book : List Entry) → IsBook book → IsRising (λ (row : SpanRow). row.fit_seq) 1 (span_rows book) (length book + 1)
span_rows-rising book is = rising_unmapped 1 (length book + 1) (span_rows book) (subst (λ (rows : List FittingRow). IsRising (λ (row : FittingRow). row.seq) 1 rows (length book + 1)) (fittings_in_spans book) (fitting_rows-rising book is.shaped))

all_kept : {X : Type 0} (xs : List X) → filter (λ x. true) xs ≡ xs
all_kept [] = refl
all_kept (x ∷ xs) = ap (λ ys. x ∷ ys) (all_kept xs)

-- the removals of a book are those that end its spans
removals_of_spans : (book : List Entry) → IsBook book → IsPermutation (filter_map removal_in (span_rows book)) (removal_rows book)
removals_of_spans book is =
    IsPermutation-sym (removal_rows book) (filter_map removal_in (span_rows book))
    (subst (λ (rows : List RemovalRow). IsPermutation rows (filter_map removal_in (span_rows book))) (all_kept (removal_rows book))
    (subst (λ (rows : List SpanRow). IsPermutation (filter (λ (row : RemovalRow). true) (removal_rows book)) (filter_map removal_in rows)) (all_kept (span_rows book))
    (removals_in_spans (λ component. true) book is)))

-- ── all tables ──

-- the spans that are put in order are those of the book
pub spans_put : (rows put : FileRows) (book : List Entry) → IsBook book → AreFilePut rows put → AreRegistersIn rows book → put.spans.items ≡ span_rows book
spans_put rows put book is p t = put_is (λ (row : SpanRow). row.fit_seq) 1 (length book + 1) (span_rows book) rows.spans.items put.spans.items (span_rows-rising book is) p.spans t.spans

-- registers that are those of a book as sets are, in order, those of the book
pub registers_put : (rows put : FileRows) (book : List Entry) → IsBook book → AreFilePut rows put → AreRegistersIn rows book → AreRegistersOf put.registers book
registers_put rows put book is p t = record {
  entries = put_is (λ (row : EntryRow). row.seq) 1 (length book + 1) (entry_rows book) rows.registers.entries.items put.registers.entries.items (entry_rows-rising book is.shaped) p.entries t.entries;
  aircraft = put_is (λ (row : AircraftRow). row.seq) 1 (length book + 1) (aircraft_rows book) rows.registers.rows.aircraft.items put.registers.rows.aircraft.items (aircraft_rows-rising book is.shaped) p.registers.aircraft t.aircraft;
  places = put_is place_key (1 * 2 ^ 32) ((length book + 1) * 2 ^ 32) (place_rows book) rows.registers.rows.places.items put.registers.rows.places.items (place_rows-rising book is.shaped) p.registers.places t.places;
  components = put_is (λ (row : ComponentRow). row.seq) 1 (length book + 1) (component_rows book) rows.registers.rows.components.items put.registers.rows.components.items (component_rows-rising book is.shaped) p.registers.components t.components;
  programmes = put_is (λ (row : ProgrammeRow). row.seq) 1 (length book + 1) (programme_rows book) rows.registers.rows.programmes.items put.registers.rows.programmes.items (programme_rows-rising book is.shaped) p.registers.programmes t.programmes;
  tasks = put_is task_key (1 * 2 ^ 32) ((length book + 1) * 2 ^ 32) (task_rows book) rows.registers.rows.tasks.items put.registers.rows.tasks.items (task_rows-rising book is.shaped) p.registers.tasks t.tasks;
  openings = put_is (λ (row : OpeningRow). row.seq) 1 (length book + 1) (opening_rows book) rows.registers.rows.openings.items put.registers.rows.openings.items (opening_rows-rising book is.shaped) p.registers.openings t.openings;
  releases = put_is (λ (row : ReleaseRow). row.seq) 1 (length book + 1) (release_rows book) rows.registers.rows.releases.items put.registers.rows.releases.items (release_rows-rising book is.shaped) p.registers.releases t.releases;
  release_lines = put_is release_line_key (1 * 2 ^ 32) ((length book + 1) * 2 ^ 32) (release_line_rows book) rows.registers.rows.release_lines.items put.registers.rows.release_lines.items (release_line_rows-rising book is.shaped) p.registers.release_lines t.release_lines;
  deferrals = put_is (λ (row : DeferralRow). row.seq) 1 (length book + 1) (deferral_rows book) rows.registers.rows.deferrals.items put.registers.rows.deferrals.items (deferral_rows-rising book is.shaped) p.registers.deferrals t.deferrals;
  extensions = put_is (λ (row : ExtensionRow). row.seq) 1 (length book + 1) (extension_rows book) rows.registers.rows.extensions.items put.registers.rows.extensions.items (extension_rows-rising book is.shaped) p.registers.extensions t.extensions;
  sectors = put_is (λ (row : SectorRow). row.seq) 1 (length book + 1) (sector_rows book) rows.registers.rows.sectors.items put.registers.rows.sectors.items (sector_rows-rising book is.shaped) p.registers.sectors t.sectors;
  fittings = p.moves.fittings ∙ ap (map fitting_in) (spans_put rows put book is p t) ∙ sym (fittings_in_spans book);
  removals = put_is (λ (row : RemovalRow). row.seq) 1 (length book + 1) (removal_rows book) (filter_map removal_in put.spans.items) put.registers.rows.removals.items (removal_rows-rising book is.shaped) p.moves.removals
      (subst (λ (spans : List SpanRow). IsPermutation (filter_map removal_in spans) (removal_rows book)) (sym (spans_put rows put book is p t)) (removals_of_spans book is));
}
