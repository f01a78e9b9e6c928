-- Numbers of entries by the names of what they added, and names by these numbers, in rows that were found.
use Rattle.std.specs.Prelude.{ℕ, List, Bool, true, false, Option, filter, find, slice_get}
use Rattle.std.specs.Option.{option_map, option_map_or}
use Rattle.mx_book.specs.commands.Act.{Entry}
use Rattle.mx_book.specs.commands.Same.{same_text}
use Rattle.mx_book.specs.Book.{entry_at}
use Rattle.mx_registers.specs.Registers.{entry_rows}
use Rattle.mx_base.specs.declared.rows.rows.AircraftRow.{AircraftRow}
use Rattle.mx_base.specs.declared.rows.rows.ComponentRow.{ComponentRow}
use Rattle.mx_base.specs.declared.rows.rows.EntryKind.{EntryKind}
use Rattle.mx_base.specs.declared.rows.rows.EntryKind.TheVariants.{Defer}
use Rattle.mx_base.specs.declared.rows.rows.EntryRow.{EntryRow}

-- the rows of the entries that have a document
abbrev pub entries_with : List ℕ → List Entry → List EntryRow
entries_with doc book = filter (λ row. same_text row.doc doc) (entry_rows book)

-- the number of the first of these entries, or 0 where there is none
abbrev pub last_number : List EntryRow → ℕ
last_number rows = option_map_or (λ row. row.seq) (slice_get rows 0) 0

-- the number of the first of these entries
abbrev pub entry_number : List EntryRow → Option ℕ
entry_number rows = option_map (λ row. row.seq) (slice_get rows 0)

-- the number of the first of these aircraft
abbrev pub aircraft_number : List AircraftRow → Option ℕ
aircraft_number rows = option_map (λ row. row.seq) (slice_get rows 0)

-- the number of the first of these components
abbrev pub component_number : List ComponentRow → Option ℕ
component_number rows = option_map (λ row. row.seq) (slice_get rows 0)

-- the document of the first of these entries
abbrev pub doc_in : List EntryRow → Option (List ℕ)
doc_in rows = option_map (λ row. row.doc) (slice_get rows 0)

-- the document of the entry with a number
abbrev pub doc_at : List Entry → ℕ → Option (List ℕ)
doc_at book n = option_map (λ entry. entry.doc) (entry_at book n)

-- the kind of entry that defers a defect
abbrev pub is_deferral : EntryKind → Bool
is_deferral Defer = true
is_deferral _ = false

-- the number of the first of these entries that defers a defect
abbrev pub deferral_number : List EntryRow → Option ℕ
deferral_number rows = option_map (λ row. row.seq) (find (λ row. is_deferral row.kind) rows)

-- the document of the first of these entries that defers a defect
abbrev pub deferred_doc : List EntryRow → Option (List ℕ)
deferred_doc rows = option_map (λ row. row.doc) (find (λ row. is_deferral row.kind) rows)

-- the registration of the first of these aircraft
abbrev pub tail_in : List AircraftRow → Option (List ℕ)
tail_in rows = option_map (λ row. row.tail) (slice_get rows 0)

-- the serial number of the first of these components
abbrev pub serial_in : List ComponentRow → Option (List ℕ)
serial_in rows = option_map (λ row. row.serial) (slice_get rows 0)
