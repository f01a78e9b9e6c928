-- Which rows are made of what a command says.
use Rattle.std.specs.Prelude.{ℕ, List}
use Rattle.mx_book.specs.commands.Act.{Act, Entry}
use Rattle.mx_base.specs.declared.rows.rows.EntryRow.{EntryRow}
use Rattle.mx_registers.specs.kept.Changes.{entry_of}
use Rattle.mx_row_rules.specs.declared.changes.rows.CommandRows.{CommandRows}
use Rattle.mx_row_rules.specs.changes.Rows.{AreCommandRows, IsEntryOf}

-- the rows are those of a command that says this behind the entries of a book, whatever its document is, where the row is that of its entry
abbrev pub AreRowsOf : Act → EntryRow → List Entry → CommandRows → Type 0
AreRowsOf act entry book rows = (doc : List ℕ) → IsEntryOf book (entry_of doc act) entry → AreCommandRows book (entry_of doc act) rows
