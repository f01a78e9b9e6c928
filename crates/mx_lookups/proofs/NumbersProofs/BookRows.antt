-- Raw look-ups: what the rows that are chosen from each table by a column are of the book that the tables stand for. One of each.
-- They are lemmas, and no functions: a look-up calls that of `mx_table_rows::chosen` itself. As functions they were
-- nine of thirteen lines, alike but for names, with as many files of answers.
use Rattle.std.proofs.Common.{◌≡◌, ℕ, pos, List, Vec, Option, Result, None, Some, filter, refl, ap, ◌∙◌}
use Rattle.std.specs.Prelude.{nat_eq}
use Rattle.std.specs.Option.{option_eq}
use Rattle.sqlite.specs.declared.types.Value.TheVariants.{Int, Text}
use Rattle.sqlite.specs.Collation.TheVariants.{Binary}
use Rattle.sqlite.specs.Order.{column}
use Rattle.sqlite.specs.State.{State}
use Rattle.sqlite_schema.specs.Rules.{equal}
use Rattle.sqlite_sql.specs.Ops.{binary}
use Rattle.mx_base.specs.declared.point.Point.{Point}
use Rattle.mx_book.specs.commands.Act.{Entry}
use Rattle.mx_book.specs.commands.Same.{same_text}
use Rattle.mx_registers.specs.Registers.{entry_rows, aircraft_rows, place_rows, component_rows, programme_rows, task_rows, opening_rows, release_rows, release_line_rows, deferral_rows, extension_rows}
use Rattle.mx_registers.specs.kept.Spans.{span_rows}
use Rattle.mx_registers.specs.kept.Totals.{total_rows}
use Rattle.mx_layout.specs.declared.fault.TableFault.{TableFault}
use Rattle.mx_layout.specs.kept.Cells.{kept_entry, kept_aircraft, kept_place, kept_component, kept_programme, kept_task, kept_opening, kept_crs, kept_crs_line, kept_defect, kept_extension, kept_span2, kept_total2}
use Rattle.mx_layout.specs.kept.Kept.{Kept}
use Rattle.mx_layout.specs.kept.Values.{number_or_null}
use Rattle.mx_table_rows.specs.chosen.Choices.{has_value, is_any, is_open}
use Rattle.mx_table_rows.specs.chosen.Calls.{ReadsBy, ReadsFirst}
use Rattle.mx_row_rules.specs.found.Defects.{rectifies}
use Rattle.mx_row_rules.specs.found.Spans.{is_open_at, is_open_of, is_removed_by}
use Rattle.mx_lookups.specs.numbers.Reads.{IsRowsPoint, Reads, ReadsAt}
use Rattle.mx_lookups.proofs.NumbersProofs.LookupLemmas.{all_read, rows_read, text_is, number_is, is_open_at-cells, is_open_of-cells}
use Rattle.mx_lookups.proofs.NumbersProofs.TableLemmas.{IsTableAt, entries_at, aircraft, aircraft_at, places, components, components_at, programmes, tasks, openings, releases, release_lines, release_lines_at, deferrals, extensions, spans, totals, now}

-- ── by a number and by a text, whatever the table ──

module _ {at_point : Point} {X A : Type 0} (k : Kept X) (rows : List Entry → List X) (it : IsTableAt at_point k rows) (old new : State) (result : Result (Vec X A) TableFault) where
  pub by_number : (at : ℕ) (of : X → ℕ) → ((x : X) → column (k.as_cells x) at ≡ Int (pos (of x))) → (n : ℕ) → ReadsBy k at (Int (pos n)) old new result
      → ReadsAt at_point (λ book found. found.items ≡ filter (λ x. nat_eq (of x) n) (rows book)) old new result
  by_number at of is n = rows_read k rows it (has_value at (Int (pos n))) (λ x. nat_eq (of x) n) (λ x. ap (λ cell. equal Binary cell (Int (pos n))) (is x) ∙ number_is (of x) n) (λ found. found.items) old new result

  pub by_text : (at : ℕ) (of : X → List ℕ) → ((x : X) → column (k.as_cells x) at ≡ Text (of x)) → (text : List ℕ) → ReadsBy k at (Text text) old new result
      → ReadsAt at_point (λ book found. found.items ≡ filter (λ x. same_text (of x) text) (rows book)) old new result
  by_text at of is text = rows_read k rows it (has_value at (Text text)) (λ x. same_text (of x) text) (λ x. ap (λ cell. equal Binary cell (Text text)) (is x) ∙ text_is (of x) text) (λ found. found.items) old new result

-- ── each raw look-up ──

-- a number that may be missing
pub some_number : (o : Option ℕ) (n : ℕ) → equal Binary (number_or_null o) (Int (pos n)) ≡ option_eq nat_eq o (Some n)
unfolding binary
some_number None n = refl
some_number (Some m) n = number_is m n

module _ {A : Type 0} {old new : State} where
  pub entries_of_doc_at : {at : Point} {result : Result (Vec _ A) TableFault} → IsRowsPoint at → (doc : List ℕ) → ReadsBy kept_entry 1 (Text doc) old new result → ReadsAt at (λ book rows. rows.items ≡ filter (λ row. same_text row.doc doc) (entry_rows book)) old new result
  entries_of_doc_at {result = result} is = by_text kept_entry entry_rows (entries_at is) old new result 1 (λ row. row.doc) (λ row. refl)

  pub entries_of_doc : {result : Result (Vec _ A) TableFault} (doc : List ℕ) → ReadsBy kept_entry 1 (Text doc) old new result → Reads (λ book rows. rows.items ≡ filter (λ row. same_text row.doc doc) (entry_rows book)) old new result
  entries_of_doc = entries_of_doc_at now

  pub entries_of_number_at : {at : Point} {result : Result (Vec _ A) TableFault} → IsRowsPoint at → (n : ℕ) → ReadsBy kept_entry 0 (Int (pos n)) old new result → ReadsAt at (λ book rows. rows.items ≡ filter (λ row. nat_eq row.seq n) (entry_rows book)) old new result
  entries_of_number_at {result = result} is = by_number kept_entry entry_rows (entries_at is) old new result 0 (λ row. row.seq) (λ row. refl)

  pub entries_of_number : {result : Result (Vec _ A) TableFault} (n : ℕ) → ReadsBy kept_entry 0 (Int (pos n)) old new result → Reads (λ book rows. rows.items ≡ filter (λ row. nat_eq row.seq n) (entry_rows book)) old new result
  entries_of_number = entries_of_number_at now

  pub aircraft_of_tail_at : {at : Point} {result : Result (Vec _ A) TableFault} → IsRowsPoint at → (tail : List ℕ) → ReadsBy kept_aircraft 1 (Text tail) old new result → ReadsAt at (λ book rows. rows.items ≡ filter (λ row. same_text row.tail tail) (aircraft_rows book)) old new result
  aircraft_of_tail_at {result = result} is = by_text kept_aircraft aircraft_rows (aircraft_at is) old new result 1 (λ row. row.tail) (λ row. refl)

  pub aircraft_of_tail : {result : Result (Vec _ A) TableFault} (tail : List ℕ) → ReadsBy kept_aircraft 1 (Text tail) old new result → Reads (λ book rows. rows.items ≡ filter (λ row. same_text row.tail tail) (aircraft_rows book)) old new result
  aircraft_of_tail = aircraft_of_tail_at now

  pub aircraft_of_number_at : {at : Point} {result : Result (Vec _ A) TableFault} → IsRowsPoint at → (n : ℕ) → ReadsBy kept_aircraft 0 (Int (pos n)) old new result → ReadsAt at (λ book rows. rows.items ≡ filter (λ row. nat_eq row.seq n) (aircraft_rows book)) old new result
  aircraft_of_number_at {result = result} is = by_number kept_aircraft aircraft_rows (aircraft_at is) old new result 0 (λ row. row.seq) (λ row. refl)

  pub aircraft_of_number : {result : Result (Vec _ A) TableFault} (n : ℕ) → ReadsBy kept_aircraft 0 (Int (pos n)) old new result → Reads (λ book rows. rows.items ≡ filter (λ row. nat_eq row.seq n) (aircraft_rows book)) old new result
  aircraft_of_number = aircraft_of_number_at now

  pub places_of : {result : Result (Vec _ A) TableFault} (n : ℕ) → ReadsBy kept_place 0 (Int (pos n)) old new result → Reads (λ book rows. rows.items ≡ filter (λ row. nat_eq row.seq n) (place_rows book)) old new result
  places_of {result} = by_number kept_place place_rows places old new result 0 (λ row. row.seq) (λ row. refl)

  pub components_of_serial_at : {at : Point} {result : Result (Vec _ A) TableFault} → IsRowsPoint at → (serial : List ℕ) → ReadsBy kept_component 1 (Text serial) old new result → ReadsAt at (λ book rows. rows.items ≡ filter (λ row. same_text row.serial serial) (component_rows book)) old new result
  components_of_serial_at {result = result} is = by_text kept_component component_rows (components_at is) old new result 1 (λ row. row.serial) (λ row. refl)

  pub components_of_serial : {result : Result (Vec _ A) TableFault} (serial : List ℕ) → ReadsBy kept_component 1 (Text serial) old new result → Reads (λ book rows. rows.items ≡ filter (λ row. same_text row.serial serial) (component_rows book)) old new result
  components_of_serial = components_of_serial_at now

  pub components_of_number : {result : Result (Vec _ A) TableFault} (n : ℕ) → ReadsBy kept_component 0 (Int (pos n)) old new result → Reads (λ book rows. rows.items ≡ filter (λ row. nat_eq row.seq n) (component_rows book)) old new result
  components_of_number {result} = by_number kept_component component_rows components old new result 0 (λ row. row.seq) (λ row. refl)

  pub programmes_of_kind : {result : Result (Vec _ A) TableFault} (kind : List ℕ) → ReadsBy kept_programme 1 (Text kind) old new result → Reads (λ book rows. rows.items ≡ filter (λ row. same_text row.kind kind) (programme_rows book)) old new result
  programmes_of_kind {result} = by_text kept_programme programme_rows programmes old new result 1 (λ row. row.kind) (λ row. refl)

  pub programmes_of_number : {result : Result (Vec _ A) TableFault} (n : ℕ) → ReadsBy kept_programme 0 (Int (pos n)) old new result → Reads (λ book rows. rows.items ≡ filter (λ row. nat_eq row.seq n) (programme_rows book)) old new result
  programmes_of_number {result} = by_number kept_programme programme_rows programmes old new result 0 (λ row. row.seq) (λ row. refl)

  pub tasks_of : {result : Result (Vec _ A) TableFault} (n : ℕ) → ReadsBy kept_task 0 (Int (pos n)) old new result → Reads (λ book rows. rows.items ≡ filter (λ row. nat_eq row.seq n) (task_rows book)) old new result
  tasks_of {result} = by_number kept_task task_rows tasks old new result 0 (λ row. row.seq) (λ row. refl)

  pub openings_of_number : {result : Result (Vec _ A) TableFault} (n : ℕ) → ReadsBy kept_opening 0 (Int (pos n)) old new result → Reads (λ book rows. rows.items ≡ filter (λ row. nat_eq row.seq n) (opening_rows book)) old new result
  openings_of_number {result} = by_number kept_opening opening_rows openings old new result 0 (λ row. row.seq) (λ row. refl)

  pub releases_of_number : {result : Result (Vec _ A) TableFault} (n : ℕ) → ReadsBy kept_crs 0 (Int (pos n)) old new result → Reads (λ book rows. rows.items ≡ filter (λ row. nat_eq row.seq n) (release_rows book)) old new result
  releases_of_number {result} = by_number kept_crs release_rows releases old new result 0 (λ row. row.seq) (λ row. refl)

  pub lines_of : {result : Result (Vec _ A) TableFault} (n : ℕ) → ReadsBy kept_crs_line 0 (Int (pos n)) old new result → Reads (λ book rows. rows.items ≡ filter (λ row. nat_eq row.seq n) (release_line_rows book)) old new result
  lines_of {result} = by_number kept_crs_line release_line_rows release_lines old new result 0 (λ row. row.seq) (λ row. refl)

  pub lines_of_defect_at : {at : Point} {result : Result (Vec _ A) TableFault} → IsRowsPoint at → (n : ℕ) → ReadsBy kept_crs_line 4 (Int (pos n)) old new result → ReadsAt at (λ book rows. rows.items ≡ filter (rectifies n) (release_line_rows book)) old new result
  lines_of_defect_at {result = result} is n = rows_read kept_crs_line release_line_rows (release_lines_at is) (has_value 4 (Int (pos n))) (rectifies n) (λ row. some_number row.defect n) (λ rows. rows.items) old new result

  pub lines_of_defect : {result : Result (Vec _ A) TableFault} (n : ℕ) → ReadsBy kept_crs_line 4 (Int (pos n)) old new result → Reads (λ book rows. rows.items ≡ filter (rectifies n) (release_line_rows book)) old new result
  lines_of_defect = lines_of_defect_at now

  pub lines_all_at : {at : Point} {result : Result (Vec _ A) TableFault} → IsRowsPoint at → ReadsFirst kept_crs_line None kept_crs_line.order is_any (λ rows. rows.items) old new result → ReadsAt at (λ book rows. rows.items ≡ release_line_rows book) old new result
  lines_all_at {result = result} is = all_read kept_crs_line release_line_rows (release_lines_at is) (λ rows. rows.items) old new result

  pub deferrals_of_number : {result : Result (Vec _ A) TableFault} (n : ℕ) → ReadsBy kept_defect 0 (Int (pos n)) old new result → Reads (λ book rows. rows.items ≡ filter (λ row. nat_eq row.seq n) (deferral_rows book)) old new result
  deferrals_of_number {result} = by_number kept_defect deferral_rows deferrals old new result 0 (λ row. row.seq) (λ row. refl)

  pub deferrals_of_aircraft : {result : Result (Vec _ A) TableFault} (n : ℕ) → ReadsBy kept_defect 1 (Int (pos n)) old new result → Reads (λ book rows. rows.items ≡ filter (λ row. nat_eq row.aircraft n) (deferral_rows book)) old new result
  deferrals_of_aircraft {result} = by_number kept_defect deferral_rows deferrals old new result 1 (λ row. row.aircraft) (λ row. refl)

  pub extensions_of_number : {result : Result (Vec _ A) TableFault} (n : ℕ) → ReadsBy kept_extension 0 (Int (pos n)) old new result → Reads (λ book rows. rows.items ≡ filter (λ row. nat_eq row.seq n) (extension_rows book)) old new result
  extensions_of_number {result} = by_number kept_extension extension_rows extensions old new result 0 (λ row. row.seq) (λ row. refl)

  pub extensions_of_defect : {result : Result (Vec _ A) TableFault} (n : ℕ) → ReadsBy kept_extension 1 (Int (pos n)) old new result → Reads (λ book rows. rows.items ≡ filter (λ row. nat_eq row.defect n) (extension_rows book)) old new result
  extensions_of_defect {result} = by_number kept_extension extension_rows extensions old new result 1 (λ row. row.defect) (λ row. refl)

  pub totals_of : {result : Result (Vec _ A) TableFault} (n : ℕ) → ReadsBy kept_total2 0 (Int (pos n)) old new result → Reads (λ book rows. rows.items ≡ filter (λ row. nat_eq row.item n) (total_rows book)) old new result
  totals_of {result} = by_number kept_total2 total_rows totals old new result 0 (λ row. row.item) (λ row. refl)

  pub spans_of_fitting : {result : Result (Vec _ A) TableFault} (n : ℕ) → ReadsBy kept_span2 0 (Int (pos n)) old new result → Reads (λ book rows. rows.items ≡ filter (λ row. nat_eq row.fit_seq n) (span_rows book)) old new result
  spans_of_fitting {result} = by_number kept_span2 span_rows spans old new result 0 (λ row. row.fit_seq) (λ row. refl)

  pub spans_of_removal : {result : Result (Vec _ A) TableFault} (n : ℕ) → ReadsBy kept_span2 5 (Int (pos n)) old new result → Reads (λ book rows. rows.items ≡ filter (is_removed_by n) (span_rows book)) old new result
  spans_of_removal {result} n = rows_read kept_span2 span_rows spans (has_value 5 (Int (pos n))) (is_removed_by n) (λ row. some_number row.remove_seq n) (λ rows. rows.items) old new result

  pub open_spans_of : {result : Result (Vec _ A) TableFault} (n : ℕ) → ReadsFirst kept_span2 None kept_span2.order (is_open 1 (Int (pos n))) (λ rows. rows.items) old new result → Reads (λ book rows. rows.items ≡ filter (is_open_of n) (span_rows book)) old new result
  open_spans_of {result} n = rows_read kept_span2 span_rows spans (is_open 1 (Int (pos n))) (is_open_of n) (is_open_of-cells n) (λ rows. rows.items) old new result

  pub open_spans_at : {result : Result (Vec _ A) TableFault} (n : ℕ) → ReadsFirst kept_span2 None kept_span2.order (is_open 2 (Int (pos n))) (λ rows. rows.items) old new result → Reads (λ book rows. rows.items ≡ filter (is_open_at n) (span_rows book)) old new result
  open_spans_at {result} n = rows_read kept_span2 span_rows spans (is_open 2 (Int (pos n))) (is_open_at n) (is_open_at-cells n) (λ rows. rows.items) old new result

  pub aircraft_all : {result : Result (Vec _ A) TableFault} → ReadsFirst kept_aircraft None kept_aircraft.order is_any (λ rows. rows.items) old new result → Reads (λ book rows. rows.items ≡ aircraft_rows book) old new result
  aircraft_all {result} = all_read kept_aircraft aircraft_rows aircraft (λ rows. rows.items) old new result

  pub components_all : {result : Result (Vec _ A) TableFault} → ReadsFirst kept_component None kept_component.order is_any (λ rows. rows.items) old new result → Reads (λ book rows. rows.items ≡ component_rows book) old new result
  components_all {result} = all_read kept_component component_rows components (λ rows. rows.items) old new result

  pub deferrals_all : {result : Result (Vec _ A) TableFault} → ReadsFirst kept_defect None kept_defect.order is_any (λ rows. rows.items) old new result → Reads (λ book rows. rows.items ≡ deferral_rows book) old new result
  deferrals_all {result} = all_read kept_defect deferral_rows deferrals (λ rows. rows.items) old new result
