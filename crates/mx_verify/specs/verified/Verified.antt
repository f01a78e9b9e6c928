-- Rows that are those of a book.
use Rattle.std.specs.Prelude.{◌≡◌, List, IsPermutation}
use Rattle.mx_book.specs.commands.Act.{Entry}
use Rattle.mx_registers.specs.Registers.{AreRegistersOf}
use Rattle.mx_registers.specs.kept.Bases.{base_rows}
use Rattle.mx_registers.specs.kept.Spans.{span_rows}
use Rattle.mx_registers.specs.kept.Totals.{total_rows}
use Rattle.mx_registers.specs.declared.file.file_rows.FileRows.{FileRows}

-- the kept rows are those that the book gives
pub record HasKeptRows (rows : FileRows) (book : List Entry) : Type 0 where
  pub spans : rows.spans.items ≡ span_rows book
  pub totals : rows.totals.items ≡ total_rows book
  pub bases : IsPermutation rows.bases.items (base_rows book)

-- the rows are those of this book: its registers, and the kept rows that it gives
pub record AreRowsOf (rows : FileRows) (book : List Entry) : Type 0 where
  pub registers : AreRegistersOf rows.registers book
  pub kept : HasKeptRows rows book
