-- What registers give: their book, or why they are those of none.
use Rattle.std.specs.Prelude.{ℕ, ◌+◌, Bool, nat_eq, List, [], ◌∷◌, ◌++◌, length, Result, Ok, Err, is_some, if◌then◌else◌}
use Rattle.std.specs.Option.{option_map_or}
use Rattle.mx_book.specs.commands.Act.{Entry}
use Rattle.mx_book.specs.Judge.{judge}
use Rattle.mx_book.specs.Book.{is_new}
use Rattle.mx_base.specs.declared.rows.rows.EntryKind.{EntryKind}
use Rattle.mx_base.specs.declared.rows.rows.EntryKind.TheVariants as kind
use Rattle.mx_base.specs.declared.rows.rows.EntryRow.{EntryRow}
use Rattle.mx_registers.specs.Merge.{Rest, are_taken, first_of_entry, take_command}
use Rattle.mx_verify.specs.declared.merged.merged.NoBook.{NoBook}
use Rattle.mx_verify.specs.declared.merged.merged.NoBook.TheVariants.{Damaged, Differs}

-- the first of these rows is of the entry with this number
abbrev pub is_first : {Row : Type 0} → (Row → ℕ) → ℕ → List Row → Bool
is_first seq_of seq rows = is_some (first_of_entry seq_of seq rows)

-- the first row of its kind is of the entry with this number
abbrev pub has_row_of : EntryKind → ℕ → Rest → Bool
has_row_of kind.AddAircraft seq rest = is_first (λ row. row.seq) seq rest.aircraft
has_row_of kind.AddComponent seq rest = is_first (λ row. row.seq) seq rest.components
has_row_of kind.LoadProgramme seq rest = is_first (λ row. row.seq) seq rest.programmes
has_row_of kind.Opening seq rest = is_first (λ row. row.seq) seq rest.openings
has_row_of kind.Sector seq rest = is_first (λ row. row.seq) seq rest.sectors
has_row_of kind.Fit seq rest = is_first (λ row. row.seq) seq rest.fittings
has_row_of kind.Remove seq rest = is_first (λ row. row.seq) seq rest.removals
has_row_of kind.Release seq rest = is_first (λ row. row.seq) seq rest.releases
has_row_of kind.Defer seq rest = is_first (λ row. row.seq) seq rest.deferrals
has_row_of kind.Extend seq rest = is_first (λ row. row.seq) seq rest.extensions

-- the first row of its kind is of the entry
abbrev pub has_row : EntryRow → Rest → Bool
has_row entry rest = has_row_of entry.kind entry.seq rest

-- why an entry whose rows say no command belongs to no book: it has a row, which names an entry that is not there or says no command of its shape; or it has none
abbrev pub without_command : EntryRow → Rest → NoBook
without_command entry rest = if has_row entry rest then Damaged entry.kind else Differs

-- the book that goes on with these rows, or why they are those of none: the entries before an entry refuse what its rows say, its rows say no command, or it has another number than the next; or behind the last entry rows are left
abbrev pub merging : List Entry → List EntryRow → Rest → Result (List Entry) NoBook
merging before [] rest = if are_taken rest then Ok before else Err Differs
merging before (entry ∷ entries) rest =
    if nat_eq entry.seq (length before + 1)
    then option_map_or (λ (next : Entry × Rest). if is_new (judge before next.0) then merging (before ++ next.0 ∷ []) entries next.1 else Err (Damaged entry.kind)) (take_command before entry rest) (Err (without_command entry rest))
    else Err Differs
