-- When the rows of entries state no commands, and what calls leave that find it.
-- That the rows of an entry state no command is no fact of one row, and of which rows it is depends on the kind. So it
-- stands beside `IsDamaged`: `ReadsOr` is a look-up with all that `Reads` says, or one that was answered with what is
-- so of no book, and the reason for which a table is told damaged. The table is that of the kind, where the row is
-- missing or wrong.
use Rattle.std.specs.Prelude.{◌≡◌, ◌≤◌, ◌⊎◌, ⊤, ℕ, List, Option, Some, None, Result, Ok, Err}
use Rattle.sqlite.specs.State.{State, HasCleanDisk}
use Rattle.sqlite.specs.Tree.{Trees}
use Rattle.mx_book.specs.commands.Act.{Act, Entry}
use Rattle.mx_base.specs.declared.rows.rows.EntryRow.{EntryRow}
use Rattle.mx_layout.specs.TableName.{TableName}
use Rattle.mx_layout.specs.declared.fault.Table.TheVariants as table
use Rattle.mx_layout.specs.declared.fault.TableFault.{TableFault}
use Rattle.mx_layout.specs.declared.fault.TableFault.TheVariants.{Damaged}
use Rattle.mx_layout.specs.kept.Cells.{kept_entry}
use Rattle.mx_lookups.specs.numbers.Reads.{HasTablesOfRows, Reads}
use Rattle.mx_row_questions.specs.entries.Entries.{IsLast, KindStated, command_said, table_of}
use Rattle.mx_row_questions.specs.entries.Stated.{FirstOf}

-- the rows of an entry, of a kind that has this table, state no command of its shape
pub record IsUnstated (name : TableName) (trees : Trees) : Type 0 where
  pub number : ℕ
  pub row : EntryRow
  pub first : FirstOf kept_entry number trees (Some row)
  pub is_table : table_of row.kind ≡ name
  pub said : Option Act
  pub stated : KindStated row.kind number trees said
  pub none : command_said row.doc said ≡ None

-- a number up to that of the last entry has no entry
pub record IsGap (trees : Trees) : Type 0 where
  pub number : ℕ
  pub last : ℕ
  pub is_last : IsLast trees last
  pub first : 1 ≤ number
  pub within : number ≤ last
  pub none : FirstOf kept_entry number trees None

-- the rows of an entry state no command, or a number has no entry
abbrev pub IsSkipped : TableName → Trees → Type 0
IsSkipped name trees = IsUnstated name trees ⊎ ((name ≡ table.Entry) × IsGap trees)

-- a table was told damaged for this reason: what was looked up is so of no book, and nothing changed
pub record Refuses {V : Type 0} (Why : TableName → Trees → Type 0) (old new : State) (result : Result V TableFault) : Type 0 where
  pub name : TableName
  pub told : result ≡ Err (Damaged name)
  pub asked : Reads {V = ⊤} (λ book v. ⊥) old new (Ok tt)
  pub why : HasCleanDisk new → HasTablesOfRows old.now.schema → Why name old.now.trees

-- look-ups were made, and a table is told damaged for a reason of its own too
abbrev pub ReadsOr : {V : Type 0} → (TableName → Trees → Type 0) → (List Entry → V → Type 0) → State → State → Result V TableFault → Type 0
ReadsOr Why Is old new result = Reads Is old new result ⊎ Refuses Why old new result
