-- Each table, where the tables stand for a book: the rows that it keeps.
use Rattle.std.proofs.Common.{◌≡◌, List, map, All, true, inl, inr, refl, subst, sym}
use Rattle.std.specs.List.Sorted.{IsPermutation}
use Rattle.sqlite.specs.Order.{Row}
use Rattle.sqlite.specs.Schema.{Schema}
use Rattle.sqlite.specs.Tree.{Trees}
use Rattle.mx_base.specs.declared.point.Point.{Point}
use Rattle.mx_book.specs.commands.Act.{Entry}
use Rattle.mx_book.specs.Book.{IsBook}
use Rattle.mx_registers.specs.Registers.{entry_rows, aircraft_rows, place_rows, component_rows, programme_rows, task_rows, opening_rows, release_rows, release_line_rows, deferral_rows, extension_rows, sector_rows}
use Rattle.mx_registers.specs.kept.Spans.{span_rows}
use Rattle.mx_registers.specs.kept.Totals.{total_rows}
use Rattle.mx_registers.proofs.KeptProofs.ItemOrder.{total_rows-rising}
use Rattle.mx_registers.specs.points.Tables.{Line, rows_at, is_table_at, entries_all, aircraft_all, places_all, components_all, programmes_all, tasks_all, openings_all, releases_all, release_lines_all, extensions_all, deferrals_2, sectors_2, spans_2, totals_2}
use Rattle.mx_registers.proofs.PointsProofs.OneBook.{span_rows-rising}
use Rattle.mx_layout.specs.TableName.{TableName}
use Rattle.mx_layout.specs.declared.fault.Table.TheVariants as table
use Rattle.mx_layout.specs.Contents.{rows_in}
use Rattle.mx_layout.specs.Names.{table_named}
use Rattle.mx_layout.specs.kept.Family.{IsReadable, IsReadableAs}
use Rattle.mx_layout.specs.kept.Kept.{Kept}
use Rattle.mx_layout.specs.kept.Cells.{kept_entry, kept_aircraft, kept_place, kept_component, kept_programme, kept_task, kept_opening, kept_crs, kept_crs_line, kept_defect, kept_extension, kept_sector2, kept_span2, kept_total2}
use Rattle.mx_layout.specs.kept.Meanings.{IsLawful}
use Rattle.mx_book_tables.specs.stands.Schemas.{HasTablesAt, IsUpTo}
use Rattle.mx_book_tables.specs.stands.Stands.{HasRowsAt}
use Rattle.mx_book_tables.proofs.StandsProofs.PointLemmas.{file_is_up_to_3, newest_is_layout}
use Rattle.mx_book_tables.proofs.StandsProofs.FamilyLemmas.{AreFacts, Rise, facts, register_facts}
use Rattle.mx_lookups.specs.numbers.Keeping.{KeepsRows}
use Rattle.mx_lookups.specs.numbers.Reads.{HasTablesOfRows, HasTablesOfRowsAt, IsRowsPoint, later_point, rows_point}

-- ── the points ──

-- rows are looked up at a point at which they can be
pub now : IsRowsPoint rows_point
now = inl refl

-- and at layout 3
pub later : IsRowsPoint later_point
later = inr refl

-- what holds at both layouts holds at each such point
pub at_each : (P : Point → Type 0) → P rows_point → P later_point → {at : Point} → IsRowsPoint at → P at
at_each P two three (inl is) = subst P (sym is) two
at_each P two three (inr is) = subst P (sym is) three

-- a file is up to layout 3 there
up_to_3 : {at : Point} → IsRowsPoint at → IsUpTo 3 at
up_to_3 = at_each (IsUpTo 3) (file_is_up_to_3 rows_point (inr refl)) (inr refl)

-- the schema is one whose rows are looked up where it has the tables of a file there
pub tables_of_rows : (schema : Schema) → HasTablesAt rows_point schema → HasTablesOfRows schema
unfolding HasTablesOfRowsAt
tables_of_rows schema has = has

tables_at_point : (at : Point) (schema : Schema) → HasTablesOfRowsAt at schema → HasTablesAt at schema
unfolding HasTablesOfRowsAt
tables_at_point at schema has = has

pub tables_at : (schema : Schema) → HasTablesOfRows schema → HasTablesAt rows_point schema
tables_at = tables_at_point rows_point

-- ── what is known of a table ──

-- each schema that has the tables of the point has this table
abbrev pub IsInEachAt : {X : Type 0} → Point → Kept X → Type 0
IsInEachAt at k = (schema : Schema) → HasTablesOfRowsAt at schema → k.IsIn schema

-- so at the point at which rows are looked up
abbrev pub IsInEach : {X : Type 0} → Kept X → Type 0
IsInEach = IsInEachAt rows_point

-- the table has its law, its rows are those of its name, each schema with the tables of the point has it, and where the tables stand for a book it keeps these rows of the book
pub record IsTableAt {X : Type 0} (at : Point) (k : Kept X) (rows : List Entry → List X) : Type 0 where
  pub law : IsLawful k
  pub readable : (row : Row) → IsReadable k.name row → IsReadableAs k row
  pub is_in : IsInEachAt at k
  pub keeps : (trees : Trees) (book : List Entry) → HasRowsAt at trees book → KeepsRows k trees (rows book)

-- so at the point at which rows are looked up
abbrev pub IsTable : {X : Type 0} → Kept X → (List Entry → List X) → Type 0
IsTable = IsTableAt rows_point

-- what the family says of a table makes it one, wherever there is such a table
module _ {X : Type 0} (name : TableName) (k : Kept X) (line : Line X) (fact : AreFacts name k line) (readable : (row : Row) → IsReadable k.name row → IsReadableAs k row) where
  -- such a table has all rows of a book
  pub whole_at : {at : Point} → IsRowsPoint at → is_table_at line at ≡ true → (book : List Entry) → rows_at line at book ≡ line.rows book
  whole_at = at_each (λ at. is_table_at line at ≡ true → (book : List Entry) → rows_at line at book ≡ line.rows book) (fact.whole 2 newest_is_layout) (fact.whole 3 (inr (inr refl)))

  pub in_each : {at : Point} → IsRowsPoint at → is_table_at line at ≡ true → IsInEachAt at k
  in_each {at} is there schema has = fact.is_in at (up_to_3 is) there schema (tables_at_point at schema has)

  pub table_is : {at : Point} → IsRowsPoint at → is_table_at line at ≡ true
      → ((book : List Entry) → IsBook book → Rise k.key (line.rows book))
      → ((trees : Trees) (book : List Entry) → HasRowsAt at trees book → All k.Fits (rows_at line at book))
      → ((trees : Trees) (book : List Entry) → HasRowsAt at trees book → IsPermutation (map k.as_cells (rows_at line at book)) (rows_in (table_named k.name) trees))
      → IsTableAt at k line.rows
  table_is is there rise fits given = record {
    law = fact.law;
    readable = readable;
    is_in = in_each is there;
    keeps = λ trees book has. (let up = rise book has.is_book in record {
      low = up.0;
      high = up.1;
      rise = up.2;
      fit = subst (All k.Fits) (whole_at is there book) (fits trees book has);
      given = subst (λ xs. IsPermutation (map k.as_cells xs) (rows_in (table_named k.name) trees)) (whole_at is there book) (given trees book has);
    });
  }

-- ── the tables that both layouts have ──

there_at : {X : Type 0} (line : Line X) → is_table_at line rows_point ≡ true → is_table_at line later_point ≡ true → {at : Point} → IsRowsPoint at → is_table_at line at ≡ true
there_at line two three = at_each (λ at. is_table_at line at ≡ true) two three

pub entries_at : {at : Point} → IsRowsPoint at → IsTableAt at kept_entry entry_rows
entries_at is = (let there = there_at entries_all refl refl is in table_is table.Entry kept_entry entries_all (facts table.Entry) (λ row is. is) is there (λ book is. (register_facts table.Entry).rise book is.shaped) (λ trees book has. has.fit table.Entry there) (λ trees book has. has.tables table.Entry there))

pub entries : IsTable kept_entry entry_rows
entries = entries_at now

pub aircraft_at : {at : Point} → IsRowsPoint at → IsTableAt at kept_aircraft aircraft_rows
aircraft_at is = (let there = there_at aircraft_all refl refl is in table_is table.Aircraft kept_aircraft aircraft_all (facts table.Aircraft) (λ row is. is) is there (λ book is. (register_facts table.Aircraft).rise book is.shaped) (λ trees book has. has.fit table.Aircraft there) (λ trees book has. has.tables table.Aircraft there))

pub aircraft : IsTable kept_aircraft aircraft_rows
aircraft = aircraft_at now

pub places_at : {at : Point} → IsRowsPoint at → IsTableAt at kept_place place_rows
places_at is = (let there = there_at places_all refl refl is in table_is table.Place kept_place places_all (facts table.Place) (λ row is. is) is there (λ book is. (register_facts table.Place).rise book is.shaped) (λ trees book has. has.fit table.Place there) (λ trees book has. has.tables table.Place there))

pub places : IsTable kept_place place_rows
places = places_at now

pub components_at : {at : Point} → IsRowsPoint at → IsTableAt at kept_component component_rows
components_at is = (let there = there_at components_all refl refl is in table_is table.Component kept_component components_all (facts table.Component) (λ row is. is) is there (λ book is. (register_facts table.Component).rise book is.shaped) (λ trees book has. has.fit table.Component there) (λ trees book has. has.tables table.Component there))

pub components : IsTable kept_component component_rows
components = components_at now

pub programmes_at : {at : Point} → IsRowsPoint at → IsTableAt at kept_programme programme_rows
programmes_at is = (let there = there_at programmes_all refl refl is in table_is table.Programme kept_programme programmes_all (facts table.Programme) (λ row is. is) is there (λ book is. (register_facts table.Programme).rise book is.shaped) (λ trees book has. has.fit table.Programme there) (λ trees book has. has.tables table.Programme there))

pub programmes : IsTable kept_programme programme_rows
programmes = programmes_at now

pub tasks_at : {at : Point} → IsRowsPoint at → IsTableAt at kept_task task_rows
tasks_at is = (let there = there_at tasks_all refl refl is in table_is table.Task kept_task tasks_all (facts table.Task) (λ row is. is) is there (λ book is. (register_facts table.Task).rise book is.shaped) (λ trees book has. has.fit table.Task there) (λ trees book has. has.tables table.Task there))

pub tasks : IsTable kept_task task_rows
tasks = tasks_at now

pub openings_at : {at : Point} → IsRowsPoint at → IsTableAt at kept_opening opening_rows
openings_at is = (let there = there_at openings_all refl refl is in table_is table.Opening kept_opening openings_all (facts table.Opening) (λ row is. is) is there (λ book is. (register_facts table.Opening).rise book is.shaped) (λ trees book has. has.fit table.Opening there) (λ trees book has. has.tables table.Opening there))

pub openings : IsTable kept_opening opening_rows
openings = openings_at now

pub releases_at : {at : Point} → IsRowsPoint at → IsTableAt at kept_crs release_rows
releases_at is = (let there = there_at releases_all refl refl is in table_is table.Crs kept_crs releases_all (facts table.Crs) (λ row is. is) is there (λ book is. (register_facts table.Crs).rise book is.shaped) (λ trees book has. has.fit table.Crs there) (λ trees book has. has.tables table.Crs there))

pub releases : IsTable kept_crs release_rows
releases = releases_at now

pub release_lines_at : {at : Point} → IsRowsPoint at → IsTableAt at kept_crs_line release_line_rows
release_lines_at is = (let there = there_at release_lines_all refl refl is in table_is table.CrsLine kept_crs_line release_lines_all (facts table.CrsLine) (λ row is. is) is there (λ book is. (register_facts table.CrsLine).rise book is.shaped) (λ trees book has. has.fit table.CrsLine there) (λ trees book has. has.tables table.CrsLine there))

pub release_lines : IsTable kept_crs_line release_line_rows
release_lines = release_lines_at now

pub extensions_at : {at : Point} → IsRowsPoint at → IsTableAt at kept_extension extension_rows
extensions_at is = (let there = there_at extensions_all refl refl is in table_is table.Extension kept_extension extensions_all (facts table.Extension) (λ row is. is) is there (λ book is. (register_facts table.Extension).rise book is.shaped) (λ trees book has. has.fit table.Extension there) (λ trees book has. has.tables table.Extension there))

pub extensions : IsTable kept_extension extension_rows
extensions = extensions_at now

pub sectors_at : {at : Point} → IsRowsPoint at → IsTableAt at kept_sector2 sector_rows
sectors_at is = (let there = there_at sectors_2 refl refl is in table_is table.Sector2 kept_sector2 sectors_2 (facts table.Sector2) (λ row is. is) is there (λ book is. (register_facts table.Sector2).rise book is.shaped) (λ trees book has. has.fit table.Sector2 there) (λ trees book has. has.tables table.Sector2 there))

pub sectors : IsTable kept_sector2 sector_rows
sectors = sectors_at now

pub spans_at : {at : Point} → IsRowsPoint at → IsTableAt at kept_span2 span_rows
spans_at is = (let there = there_at spans_2 refl refl is in table_is table.Span2 kept_span2 spans_2 (facts table.Span2) (λ row is. is) is there (λ book is. (_, _, span_rows-rising book is)) (λ trees book has. has.fit table.Span2 there) (λ trees book has. has.tables table.Span2 there))

pub spans : IsTable kept_span2 span_rows
spans = spans_at now

pub totals_at : {at : Point} → IsRowsPoint at → IsTableAt at kept_total2 total_rows
totals_at is = (let there = there_at totals_2 refl refl is in table_is table.Total2 kept_total2 totals_2 (facts table.Total2) (λ row is. is) is there (λ book is. (_, _, total_rows-rising book)) (λ trees book has. has.fit table.Total2 there) (λ trees book has. has.tables table.Total2 there))

pub totals : IsTable kept_total2 total_rows
totals = totals_at now

-- ── the tables of one of them ──

pub deferrals : IsTable kept_defect deferral_rows
deferrals = table_is table.Defect kept_defect deferrals_2 (facts table.Defect) (λ row is. is) now refl (λ book is. (register_facts table.Defect).rise book is.shaped) (λ trees book has. has.fit table.Defect refl) (λ trees book has. has.tables table.Defect refl)
