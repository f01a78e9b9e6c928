-- When a table is damaged, whatever rows stand there.
use Rattle.std.specs.Prelude.{◌≡◌, ◌≢◌, ◌⊎◌, [], Err}
use Rattle.sqlite.specs.Tree.{Trees}
use Rattle.mx_base.specs.declared.rows.rows.EntryKind.{EntryKind}
use Rattle.mx_registers.specs.Left.{all_rows}
use Rattle.mx_layout.specs.TableName.{TableName}
use Rattle.mx_verify.specs.merged.Merging.{merging}
use Rattle.mx_registers.specs.file.Tables.{AreFilePut}
use Rattle.mx_verify.specs.declared.merged.merged.NoBook.TheVariants as no_book
use Rattle.mx_registers.specs.declared.file.file_rows.FileRows.{FileRows}
use Rattle.mx_book_tables.specs.reading.Damage.{HasBadRow, IsOfficeRead, table_of}
use Rattle.mx_book_tables.specs.reading.Stored.{AreStored}

-- ── rows of entries ──

-- the rows of the file, each table's in the order of its key
pub record InOrder (trees : Trees) : Type 0 where
  pub rows : FileRows
  pub stored : AreStored trees rows
  pub put : FileRows
  pub order : AreFilePut rows put

-- some entry of this kind is damaged: read in order, its row names an entry that is not there, states no command of its shape, or the entries before it refuse what it states
pub record HasBadEntry (trees : Trees) (bad : EntryKind) : Type 0 where
  pub in_order : InOrder trees
  pub is : merging [] in_order.put.registers.entries.items (all_rows in_order.put.registers) ≡ Err (no_book.Damaged bad)

-- ── tables ──

-- some row of the table is none of its type, or the row of an entry of its kind is damaged
abbrev pub IsDamaged : Trees → TableName → Type 0
IsDamaged trees name = HasBadRow trees name ⊎ ((bad : EntryKind) × (table_of bad ≡ name) × HasBadEntry trees bad)

-- no table is damaged: the one row of `office` is of a point, each row of each other table is of its type, and read in order no row of an entry is damaged
pub record IsUndamaged (trees : Trees) : Type 0 where
  pub office : IsOfficeRead trees
  pub in_order : InOrder trees
  pub entries : (bad : EntryKind) → merging [] in_order.put.registers.entries.items (all_rows in_order.put.registers) ≢ Err (no_book.Damaged bad)
