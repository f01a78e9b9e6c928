-- The rows of the tables of a file as sets, and those rows in the order of their keys.
-- What the rows of a file are is said of sets (`AreTablesOf`), so that it does not matter in which order a table was
-- read. The rows of each table are put in the order of their keys first, and compared as lists then; last bases, whose
-- key is a number and a name, are compared as a set itself, by a map of their keys.
use Rattle.std.specs.Prelude.{◌≡◌, List, IsPermutation, map}
use Rattle.std.specs.List.{filter_map}
use Rattle.mx_book.specs.commands.Act.{Entry}
use Rattle.mx_base.specs.rows.Rows.{place_key, release_line_key, task_key}
use Rattle.mx_base.specs.declared.rows.register_rows.RegisterRows.{RegisterRows}
use Rattle.mx_registers.specs.Registers.{aircraft_rows, component_rows, deferral_rows, entry_rows, extension_rows, opening_rows, place_rows, programme_rows, release_line_rows, release_rows, sector_rows, task_rows}
use Rattle.mx_registers.specs.kept.Bases.{base_rows}
use Rattle.mx_registers.specs.kept.Spans.{fitting_in, removal_in, span_rows}
use Rattle.mx_registers.specs.kept.Totals.{total_rows}
use Rattle.mx_registers.specs.file.Sorted.{ArePut}
use Rattle.mx_registers.specs.declared.file.file_rows.FileRows.{FileRows}

-- ── rows of a book ──

-- the rows of each register are, in any order, those of this book; the fittings and removals are in the spans
pub record AreRegistersIn (rows : FileRows) (book : List Entry) : Type 0 where
  pub entries : IsPermutation rows.registers.entries.items (entry_rows book)
  pub aircraft : IsPermutation rows.registers.rows.aircraft.items (aircraft_rows book)
  pub places : IsPermutation rows.registers.rows.places.items (place_rows book)
  pub components : IsPermutation rows.registers.rows.components.items (component_rows book)
  pub programmes : IsPermutation rows.registers.rows.programmes.items (programme_rows book)
  pub tasks : IsPermutation rows.registers.rows.tasks.items (task_rows book)
  pub openings : IsPermutation rows.registers.rows.openings.items (opening_rows book)
  pub releases : IsPermutation rows.registers.rows.releases.items (release_rows book)
  pub release_lines : IsPermutation rows.registers.rows.release_lines.items (release_line_rows book)
  pub deferrals : IsPermutation rows.registers.rows.deferrals.items (deferral_rows book)
  pub extensions : IsPermutation rows.registers.rows.extensions.items (extension_rows book)
  pub sectors : IsPermutation rows.registers.rows.sectors.items (sector_rows book)
  pub spans : IsPermutation rows.spans.items (span_rows book)

-- the rows of each table are, in any order, those of this book; the fittings and removals are in the spans
pub record AreTablesOf (rows : FileRows) (book : List Entry) : Type 0 where
  pub registers : AreRegistersIn rows book
  pub totals : IsPermutation rows.totals.items (total_rows book)
  pub bases : IsPermutation rows.bases.items (base_rows book)

-- ── rows in order ──

-- the rows of each register but the fittings and removals are put in order
pub record AreRegistersPut (rows put : RegisterRows) : Type 0 where
  pub aircraft : ArePut (λ row. row.seq) rows.aircraft.items put.aircraft.items
  pub places : ArePut place_key rows.places.items put.places.items
  pub components : ArePut (λ row. row.seq) rows.components.items put.components.items
  pub programmes : ArePut (λ row. row.seq) rows.programmes.items put.programmes.items
  pub tasks : ArePut task_key rows.tasks.items put.tasks.items
  pub openings : ArePut (λ row. row.seq) rows.openings.items put.openings.items
  pub releases : ArePut (λ row. row.seq) rows.releases.items put.releases.items
  pub release_lines : ArePut release_line_key rows.release_lines.items put.release_lines.items
  pub deferrals : ArePut (λ row. row.seq) rows.deferrals.items put.deferrals.items
  pub extensions : ArePut (λ row. row.seq) rows.extensions.items put.extensions.items
  pub sectors : ArePut (λ row. row.seq) rows.sectors.items put.sectors.items

-- the fittings and removals are those that the spans stand for, in order
pub record AreMovesOf (rows : FileRows) : Type 0 where
  pub fittings : rows.registers.rows.fittings.items ≡ map fitting_in rows.spans.items
  pub removals : ArePut (λ row. row.seq) (filter_map removal_in rows.spans.items) rows.registers.rows.removals.items

-- the rows of each table are put in order, but the last bases stay as they are; and the fittings and removals are those that the spans stand for
pub record AreFilePut (rows put : FileRows) : Type 0 where
  pub entries : ArePut (λ row. row.seq) rows.registers.entries.items put.registers.entries.items
  pub registers : AreRegistersPut rows.registers.rows put.registers.rows
  pub spans : ArePut (λ row. row.fit_seq) rows.spans.items put.spans.items
  pub totals : ArePut (λ row. row.item) rows.totals.items put.totals.items
  pub bases : put.bases.items ≡ rows.bases.items
  pub moves : AreMovesOf put
