-- What is found in the tables of a file, whatever rows they have: the next row of a table, and what the registers give.
use Rattle.std.specs.Prelude.{◌≡◌, ◌⊎◌, ◌<◌, ℕ, pos, List, [], map, All, Option, None, Some, IsTrue, IfSome, Result, Ok, Err, slice_get}
use Rattle.std.specs.Option.{option_map}
use Rattle.sqlite.specs.declared.types.Value.TheVariants.{Int}
use Rattle.sqlite.specs.State.{State, HasCleanDisk}
use Rattle.sqlite.specs.Tree.{Trees}
use Rattle.mx_book.specs.Book.{IsBook}
use Rattle.mx_book.specs.commands.Act.{Entry}
use Rattle.mx_base.specs.declared.point.Point.{Point}
use Rattle.mx_registers.specs.Left.{all_rows}
use Rattle.mx_registers.specs.file.Tables.{AreFilePut, AreRegistersIn}
use Rattle.mx_registers.specs.declared.file.file_rows.FileRows.{FileRows}
use Rattle.mx_layout.specs.Names.{table_named}
use Rattle.mx_layout.specs.kept.Kept.{Kept}
use Rattle.mx_table_rows.specs.chosen.Choices.{AreFirst, is_above}
use Rattle.mx_book_tables.specs.reading.Stored.{AreRegisters}
use Rattle.mx_verify.specs.derived.Kept.{AreKeptOf}
use Rattle.mx_verify.specs.merged.Merging.{merging}
use Rattle.mx_verify.specs.declared.derived.kept.KeptRows.{KeptRows}
use Rattle.mx_verify.specs.declared.merged.merged.NoBook.{NoBook}
use Rattle.mx_migrate.specs.settle.Numbers.{late_table}

-- ── the next row of a table ──

-- this is the number of the first row of the table that is behind the mark, if there is one, and that row is of the table's type
abbrev pub IsNextIn : {X : Type 0} → Kept X → ℕ → Trees → Option ℕ → Type 0
IsNextIn {X} k mark trees next = (rows : List X) × AreFirst (Some 1) k.order (table_named k.name) (is_above 0 (Int (pos mark))) trees (map k.as_cells rows) × All k.Fits rows × (next ≡ option_map k.key (slice_get rows 0))

-- ── what the registers give ──

-- the rows of the registers, each of which has a number that an entry can have, give this when they are put in order and merged: a book, or why they are those of none
pub record AreMerged (trees : Trees) (given : Result (List Entry) NoBook) : Type 0 where
  pub rows : FileRows
  pub are : AreRegisters trees rows
  pub early : late_table rows ≡ None
  pub put : FileRows
  pub in_order : AreFilePut rows put
  pub gives : merging [] put.registers.entries.items (all_rows put.registers) ≡ given

-- they are those of no book, for this reason
pub record HasNoBook (trees : Trees) (why : NoBook) : Type 0 where
  pub merged : AreMerged trees (Err why)
  pub none : (book : List Entry) → IsBook book → AreRegistersIn merged.rows book → ⊥

-- the kept rows are those of the book that the registers in these trees give
abbrev pub AreKeptIn : KeptRows → Trees → Type 0
AreKeptIn kept trees = (book : List Entry) × AreMerged trees (Ok book) × AreKeptOf kept book

-- ── what is known of them ──

-- the point is one at which the registers may have been read: what is kept of items is written there, or has been
abbrev pub MayBeRead : Point → Type 0
MayBeRead at = (2 < at.step) ⊎ (1 < at.layout)

-- the kept rows that are known, if any are, are those that the registers in these trees give
abbrev pub KnowsIn : Point → Option KeptRows → Trees → Type 0
KnowsIn at known trees = IfSome known (λ kept. MayBeRead at × AreKeptIn kept trees)

-- so of a connection, where it is open
abbrev pub KnowsNow : Point → Option KeptRows → State → Type 0
KnowsNow at known s = HasCleanDisk s → IsTrue s.is_open → KnowsIn at known s.now.trees
