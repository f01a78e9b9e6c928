-- What one commit with the rows of a command does to a file, over any rows.
use Rattle.std.specs.Prelude.{◌≡◌, true, IsPermutation, IsTrue}
use Rattle.sqlite.specs.State.{State}
use Rattle.sqlite.specs.Tree.{Trees}
use Rattle.mx_row_rules.specs.declared.changes.rows.CommandRows.{CommandRows}
use Rattle.mx_layout.specs.TableName.{TableName}
use Rattle.mx_layout.specs.Contents.{rows_in}
use Rattle.mx_layout.specs.Names.{table_named}
use Rattle.mx_book_tables.specs.stands.Family.{is_at}
use Rattle.mx_tables.specs.inserts.Sets.{GainsRows}
use Rattle.mx_apply.specs.writing.Changes.{AllRise}
use Rattle.mx_apply.specs.writing.Written.{IsSettled, written_point, with_rows}

-- the rows of a command were written in a commit of their own: the connection was open, the tables are those of the last commit, and each has its rows from before with those of the command
pub record IsWritten (x : CommandRows) (old new : State) : Type 0 where
  pub was_open : IsTrue old.is_open
  pub settled : new.now ≡ new.committed
  pub gains : IsSettled old.now.schema → AllRise old.now → GainsRows (with_rows x) old.now new.now

-- what a crash may leave of that commit, beside the tables from before: each table has its rows from before with those of the command
pub record MayWrite (x : CommandRows) (old : State) (trees : Trees) : Type 0 where
  pub was_open : IsTrue old.is_open
  pub tables : IsSettled old.now.schema → AllRise old.now → (name : TableName) → is_at written_point name ≡ true
      → IsPermutation (with_rows x name (rows_in (table_named name) old.now.trees)) (rows_in (table_named name) trees)
