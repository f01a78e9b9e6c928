-- The tables on the way from one layout to the next: which there are at a point, and which rows of a book stand in each.
-- Which rows stand in a table at a point is one test for all tables: the step that brings its rows has come to the
-- row's number, and the one that takes them away has not. So a law of one table on the way is one of all.
use Rattle.std.specs.Prelude.{ℕ, List, filter, Bool, true, false, not, ◌&&◌, ◌||◌, Option, Some, None}
use Rattle.std.specs.Option.{option_map_or}
use Rattle.mx_book.specs.commands.Act.{Entry}
use Rattle.mx_base.specs.rows.Rows.{place_key, task_key, release_line_key}
use Rattle.mx_base.specs.declared.rows.rows.AircraftRow.{AircraftRow}
use Rattle.mx_base.specs.declared.rows.rows.ComponentRow.{ComponentRow}
use Rattle.mx_base.specs.declared.rows.rows.Deferral3Row.{Deferral3Row}
use Rattle.mx_base.specs.declared.rows.rows.DeferralRow.{DeferralRow}
use Rattle.mx_base.specs.declared.rows.rows.DoneRow.{DoneRow}
use Rattle.mx_base.specs.declared.rows.rows.EntryRow.{EntryRow}
use Rattle.mx_base.specs.declared.rows.rows.ExtensionRow.{ExtensionRow}
use Rattle.mx_base.specs.declared.rows.rows.FittingRow.{FittingRow}
use Rattle.mx_base.specs.declared.rows.rows.OpeningRow.{OpeningRow}
use Rattle.mx_base.specs.declared.rows.rows.PlaceRow.{PlaceRow}
use Rattle.mx_base.specs.declared.rows.rows.ProgrammeRow.{ProgrammeRow}
use Rattle.mx_base.specs.declared.rows.rows.ReleaseLineRow.{ReleaseLineRow}
use Rattle.mx_base.specs.declared.rows.rows.ReleaseRow.{ReleaseRow}
use Rattle.mx_base.specs.declared.rows.rows.RemovalRow.{RemovalRow}
use Rattle.mx_base.specs.declared.rows.rows.SectorRow.{SectorRow}
use Rattle.mx_base.specs.declared.rows.rows.TaskRow.{TaskRow}
use Rattle.mx_registers.specs.Registers.{aircraft_rows, component_rows, deferral_rows, entry_rows, extension_rows, fitting_rows, opening_rows, place_rows, programme_rows, release_line_rows, release_rows, removal_rows, sector_rows, task_rows}
use Rattle.mx_registers.specs.kept.Bases.{base_rows}
use Rattle.mx_registers.specs.kept.Spans.{span_rows}
use Rattle.mx_registers.specs.kept.Totals.{total_rows}
use Rattle.mx_registers.specs.late.Done.{done_rows}
use Rattle.mx_registers.specs.late.Found.{found_rows}
use Rattle.mx_registers.specs.points.Points.{Step, has_moved, is_past, is_within_step, step_of}
use Rattle.mx_base.specs.declared.rows.rows.BaseRow.{BaseRow}
use Rattle.mx_base.specs.declared.rows.rows.SpanRow.{SpanRow}
use Rattle.mx_base.specs.declared.rows.rows.TotalRow.{TotalRow}
use Rattle.mx_base.specs.declared.point.Point.{Point}

-- a table on the way: the rows that a book gives it, the number by which steps move a row, and the steps that bring its rows and that take them away, where there are any
pub record Line (Row : Type 0) : Type 0 where
  pub rows : List Entry → List Row
  pub number : Row → ℕ
  pub brought : Option Step
  pub taken : Option Step

-- what has this number stands in the table at this point: its step has brought it, and none has taken it away
abbrev pub stands_there : {Row : Type 0} → Line Row → Point → ℕ → Bool
stands_there line at number = option_map_or (λ step. has_moved at step number) line.brought true && not (option_map_or (λ step. has_moved at step number) line.taken false)

-- the rows of a book that stand in the table at this point
abbrev pub rows_at : {Row : Type 0} → Line Row → Point → List Entry → List Row
rows_at line at book = filter (λ row. stands_there line at (line.number row)) (line.rows book)

-- there is such a table at this point: the step that brings its rows has begun, and the one that takes them away has not ended
abbrev pub is_table_at : {Row : Type 0} → Line Row → Point → Bool
is_table_at line at = option_map_or (λ step. is_past at step || is_within_step at step) line.brought true && not (option_map_or (is_past at) line.taken false)

-- the step that the file is in brings rows to the table, or takes rows from it
abbrev pub is_moved_at : {Row : Type 0} → Line Row → Point → Bool
is_moved_at line at = option_map_or (is_within_step at) line.brought false || option_map_or (is_within_step at) line.taken false

-- ── the tables that all layouts have ──

-- a table that no step touches
abbrev pub always : {Row : Type 0} → (List Entry → List Row) → (Row → ℕ) → Line Row
always rows number = record { rows = rows; number = number; brought = None; taken = None }

-- the entries
abbrev pub entries_all : Line EntryRow
entries_all = always entry_rows (λ row. row.seq)

-- the aircraft
abbrev pub aircraft_all : Line AircraftRow
aircraft_all = always aircraft_rows (λ row. row.seq)

-- the positions of the aircraft
abbrev pub places_all : Line PlaceRow
places_all = always place_rows place_key

-- the components
abbrev pub components_all : Line ComponentRow
components_all = always component_rows (λ row. row.seq)

-- the programmes
abbrev pub programmes_all : Line ProgrammeRow
programmes_all = always programme_rows (λ row. row.seq)

-- the tasks of the programmes
abbrev pub tasks_all : Line TaskRow
tasks_all = always task_rows task_key

-- the openings
abbrev pub openings_all : Line OpeningRow
openings_all = always opening_rows (λ row. row.seq)

-- the releases
abbrev pub releases_all : Line ReleaseRow
releases_all = always release_rows (λ row. row.seq)

-- the lines of the releases
abbrev pub release_lines_all : Line ReleaseLineRow
release_lines_all = always release_line_rows release_line_key

-- the extensions
abbrev pub extensions_all : Line ExtensionRow
extensions_all = always extension_rows (λ row. row.seq)

-- ── the tables of some layouts ──

-- the sectors, their moments as text
abbrev pub sectors_1 : Line SectorRow
sectors_1 = record { rows = sector_rows; number = λ row. row.seq; brought = None; taken = Some (step_of 1 1) }

-- the sectors, their moments as numbers
abbrev pub sectors_2 : Line SectorRow
sectors_2 = record { rows = sector_rows; number = λ row. row.seq; brought = Some (step_of 1 1); taken = None }

-- the fittings, which are moved by their components
abbrev pub fittings_1 : Line FittingRow
fittings_1 = record { rows = fitting_rows; number = λ row. row.component; brought = None; taken = Some (step_of 1 2) }

-- the removals, which are moved by their components
abbrev pub removals_1 : Line RemovalRow
removals_1 = record { rows = removal_rows; number = λ row. row.component; brought = None; taken = Some (step_of 1 2) }

-- the spans, in place of the fittings and removals
abbrev pub spans_2 : Line SpanRow
spans_2 = record { rows = span_rows; number = λ row. row.component; brought = Some (step_of 1 2); taken = None }

-- the totals
abbrev pub totals_2 : Line TotalRow
totals_2 = record { rows = total_rows; number = λ row. row.item; brought = Some (step_of 1 3); taken = None }

-- the last bases, which go where the accomplishments of their item come
abbrev pub bases_2 : Line BaseRow
bases_2 = record { rows = base_rows; number = λ row. row.item; brought = Some (step_of 1 4); taken = Some (step_of 2 2) }

-- the deferrals, without the cycles at which each was found
abbrev pub deferrals_2 : Line DeferralRow
deferrals_2 = record { rows = deferral_rows; number = λ row. row.seq; brought = None; taken = Some (step_of 2 1) }

-- the deferrals, with these cycles
abbrev pub deferrals_3 : Line Deferral3Row
deferrals_3 = record { rows = found_rows; number = λ row. row.deferral.seq; brought = Some (step_of 2 1); taken = None }

-- the accomplishments, in place of the last bases
abbrev pub done_3 : Line DoneRow
done_3 = record { rows = done_rows; number = λ row. row.item; brought = Some (step_of 2 2); taken = None }
