-- Which entry loaded the programme in force of each kind, in a map.
use Rattle.std.specs.Prelude.{ℕ, ◌+◌, length, List, [], ◌∷◌, Option, Some, None, if◌then◌else◌}
use Rattle.std.specs.Option.{option_and_then, option_map}
use Rattle.std.specs.BTreeMap.{BTreeMap}
use Rattle.std.specs.Ordering.{nat_cmp}
use Rattle.std.specs.Cmp.Lexicographic.{slice_cmp}
use Rattle.mx_book.specs.commands.Act.{Entry, programme_of}
use Rattle.mx_book.specs.Book.{entry_at}
use Rattle.mx_registers.specs.Names.{adds_named}
use Rattle.mx_indexed_book.specs.maps.Maps.{IsIndex}

-- the kind that an entry loads a programme for, where it loads one
abbrev pub kind_loaded : Entry → Option (List ℕ)
kind_loaded entry = option_map (λ p. p.kind) (programme_of entry.act)

-- the number of the last entry that loads a programme for a kind, behind the one before, where the entries are numbered from k
abbrev pub last_loaded_from : List ℕ → ℕ → Option ℕ → List Entry → Option ℕ
last_loaded_from kind k before [] = before
last_loaded_from kind k before (entry ∷ later) = last_loaded_from kind (k + 1) (if adds_named kind_loaded kind entry then Some k else before) later

-- the number of the entry that loaded the programme in force of a kind
abbrev pub last_loaded : List Entry → List ℕ → Option ℕ
last_loaded book kind = last_loaded_from kind 1 None book

-- that entry
abbrev pub programme_entry : List Entry → List ℕ → Option Entry
programme_entry book kind = option_and_then (entry_at book) (last_loaded book kind)

-- what an entry changes: the programme of its kind is in the next entry
abbrev pub programme_changed : List Entry → Entry → Option (List ℕ × Option ℕ)
programme_changed book entry = option_map (λ kind. (kind, Some (length book + 1))) (kind_loaded entry)

-- the map has the number of the entry that loaded the programme in force of each kind
abbrev pub AreProgrammes : List Entry → BTreeMap (List ℕ) (Option ℕ) → Type 0
AreProgrammes book programmes = IsIndex (slice_cmp nat_cmp) None (last_loaded book) programmes
