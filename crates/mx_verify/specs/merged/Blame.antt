-- Which entry is to blame where registers are those of no book.
-- `merging` goes through the entries as the program does. What its answer `Damaged` means is said here without it: the
-- entries before one give a book with their rows, and behind that book the rows of the one say no command that is new.
-- A law ties the two both ways. `Differs` is what is left: no book, and no entry to blame.
use Rattle.std.specs.Prelude.{◌≡◌, ◌⊎◌, ◌+◌, true, false, List, [], ◌∷◌, ◌++◌, length, None, Some}
use Rattle.mx_book.specs.commands.Act.{Entry}
use Rattle.mx_book.specs.Book.{is_new}
use Rattle.mx_book.specs.Judge.{judge}
use Rattle.mx_base.specs.declared.rows.rows.EntryKind.{EntryKind}
use Rattle.mx_base.specs.declared.rows.rows.EntryRow.{EntryRow}
use Rattle.mx_registers.specs.Merge.{Rest, is_next, take_command}
use Rattle.mx_verify.specs.merged.Merging.{has_row}

-- the entries give this book behind the one before, and leave these rows: the rows of each say a command, it has the next number, and the command is new
abbrev pub Gives : List Entry → List EntryRow → Rest → List Entry → Rest → Type 0
Gives before [] rest book left = (book ≡ before) × (left ≡ rest)
Gives before (entry ∷ entries) rest book left = (next : Entry × Rest) × (take_command before entry rest ≡ Some next) × (is_next before entry next.0 ≡ true) × Gives (before ++ next.0 ∷ []) entries next.1 book left

-- the rows of the entry are to blame behind this book: it has the next number, and they say no command, though there is one of its kind, or a command that is not new
pub record IsToBlame (book : List Entry) (entry : EntryRow) (left : Rest) : Type 0 where
  pub number : entry.seq ≡ length book + 1
  pub why : ((take_command book entry left ≡ None) × (has_row entry left ≡ true)) ⊎ ((next : Entry × Rest) × (take_command book entry left ≡ Some next) × (is_new (judge book next.0) ≡ false))

-- an entry of this kind is to blame, behind those before it, which give a book
pub record HasBlame (before : List Entry) (entries : List EntryRow) (rest : Rest) (kind : EntryKind) : Type 0 where
  pub taken : List EntryRow
  pub entry : EntryRow
  pub more : List EntryRow
  pub split : entries ≡ taken ++ entry ∷ more
  pub of_kind : entry.kind ≡ kind
  pub book : List Entry
  pub left : Rest
  pub gives : Gives before taken rest book left
  pub blame : IsToBlame book entry left
