-- Worked examples: the rows that the entries of a book give, and the book that rows give.
use Rattle.std.proofs.Common.{refl, ◌≡◌, ℕ, List, [], ◌∷◌, Option, Some, None}
use Rattle.std.specs.Prelude.{codes, map, option_map}
use Rattle.std.specs.Fmt.{digits}
use Rattle.mx_book.specs.commands.Act.{Entry}
use Rattle.mx_book.proofs.Worked.{at, abcd}
use Rattle.mx_book.proofs.WorkedFittings.{efgh, engine, propeller, e1, e2, on_another}
use Rattle.mx_base.specs.declared.rows.rows.EntryKind.{EntryKind}
use Rattle.mx_base.specs.declared.rows.rows.EntryKind.TheVariants.{AddAircraft, AddComponent, LoadProgramme, Opening, Sector, Fit, Remove, Release, Defer, Extend}
use Rattle.mx_base.specs.declared.rows.rows.EntryRow.{EntryRow}
use Rattle.mx_base.specs.declared.rows.rows.AircraftRow.{AircraftRow}
use Rattle.mx_base.specs.declared.rows.rows.PlaceRow.{PlaceRow}
use Rattle.mx_base.specs.declared.rows.rows.ComponentRow.{ComponentRow}
use Rattle.mx_base.specs.declared.rows.rows.SectorRow.{SectorRow}
use Rattle.mx_base.specs.declared.rows.rows.FittingRow.{FittingRow}
use Rattle.mx_base.specs.declared.rows.rows.RemovalRow.{RemovalRow}
use Rattle.mx_base.specs.rows.Rows.{kind_number, place_key}
use Rattle.mx_registers.specs.Names.{seq_of_tail, seq_of_serial, tail_at, serial_at}
use Rattle.mx_registers.specs.Registers.{next, entry_rows, place_rows}
use Rattle.mx_registers.specs.Merge.{Rest, merged}
use Rattle.mx_registers.proofs.MergeLemmas.{all_later}

-- ── the rows of a book: two aircraft, two engines, fitted and removed, and three sectors ──

abbrev pub entry : ℕ → List ℕ → EntryKind → EntryRow
entry seq doc kind = record { seq = seq; doc = doc; kind = kind }

abbrev first_entries : List EntryRow
first_entries =
    entry 1 (codes "A1") AddAircraft ∷ entry 2 (codes "C1") AddComponent ∷ entry 3 (codes "C2") AddComponent ∷ entry 4 (codes "F1") Fit
    ∷ entry 5 (codes "TL/D-ABCD/12/1") Sector ∷ entry 6 (codes "R1") Remove ∷ entry 7 (codes "F2") Fit ∷ entry 8 (codes "R2") Remove
    ∷ entry 9 (codes "TL/D-ABCD/12/2") Sector ∷ entry 10 (codes "A2") AddAircraft ∷ entry 11 (codes "F3") Fit ∷ []

abbrev last_entry : EntryRow
last_entry = entry 12 (codes "TL/D-EFGH/1/1") Sector

abbrev entries : List EntryRow
entries =
    entry 1 (codes "A1") AddAircraft ∷ entry 2 (codes "C1") AddComponent ∷ entry 3 (codes "C2") AddComponent ∷ entry 4 (codes "F1") Fit
    ∷ entry 5 (codes "TL/D-ABCD/12/1") Sector ∷ entry 6 (codes "R1") Remove ∷ entry 7 (codes "F2") Fit ∷ entry 8 (codes "R2") Remove
    ∷ entry 9 (codes "TL/D-ABCD/12/2") Sector ∷ entry 10 (codes "A2") AddAircraft ∷ entry 11 (codes "F3") Fit ∷ last_entry ∷ []

abbrev pub first_aircraft_row : AircraftRow
first_aircraft_row = record { seq = 1; tail = abcd; kind = codes "C172"; birth = 10957; minutes = 60000; cycles = 800; as_of = at 19723 0 0 }

abbrev second_aircraft_row : AircraftRow
second_aircraft_row = record { seq = 10; tail = efgh; kind = codes "C172"; birth = 19509; minutes = 0; cycles = 0; as_of = at 19723 0 0 }

-- a position on a line of an aircraft, from 1
abbrev pub place : ℕ → ℕ → List ℕ → List ℕ → PlaceRow
place seq line position part = record { seq = seq; line = line; position = position; part = part }

abbrev pub component_with : ℕ → List ℕ → ComponentRow
component_with seq serial = record { seq = seq; serial = serial; part = codes "IO360"; birth = 14610; minutes = 1000; cycles = 100; as_of = at 19723 0 0 }

abbrev first_sector_row : SectorRow
first_sector_row = record { seq = 5; aircraft = 1; page = 12; line = 1; took_off = at 19783 8 0; landed = at 19783 9 30; cycles = 1 }

abbrev second_sector_row : SectorRow
second_sector_row = record { seq = 9; aircraft = 1; page = 12; line = 2; took_off = at 19784 8 0; landed = at 19784 9 0; cycles = 1 }

abbrev last_sector_row : SectorRow
last_sector_row = record { seq = 12; aircraft = 10; page = 1; line = 1; took_off = at 19787 10 0; landed = at 19787 12 0; cycles = 2 }

abbrev pub fitted_row : ℕ → ℕ → ℕ → ℕ → FittingRow
fitted_row seq component aircraft moment = record { seq = seq; component = component; aircraft = aircraft; position = engine; moment = moment }

abbrev removed_row : ℕ → ℕ → RemovalRow
removed_row seq component = record { seq = seq; component = component; moment = at 19783 9 30 }

abbrev pub no_rows : Rest
no_rows = record { aircraft = []; places = []; components = []; programmes = []; tasks = []; openings = []; releases = []; release_lines = []; deferrals = []; extensions = []; sectors = []; fittings = []; removals = [] }

-- the rows of every register but that of the entries
abbrev rows : Rest
rows = record no_rows {
  aircraft = first_aircraft_row ∷ second_aircraft_row ∷ [];
  places = place 1 1 engine (codes "IO360") ∷ place 1 2 propeller (codes "HC2") ∷ place 10 1 engine (codes "IO360") ∷ [];
  components = component_with 2 e1 ∷ component_with 3 e2 ∷ [];
  sectors = first_sector_row ∷ second_sector_row ∷ last_sector_row ∷ [];
  fittings = fitted_row 4 2 1 (at 19754 0 0) ∷ fitted_row 7 3 1 (at 19783 9 30) ∷ fitted_row 11 2 10 (at 19787 0 0) ∷ [];
  removals = removed_row 6 2 ∷ removed_row 8 3 ∷ [];
}

entries_listed : entry_rows on_another ≡ entries
entries_listed = refl

-- the positions of each aircraft have their lines from 1, and each sector has the number of the entry that added its aircraft
registers_listed : all_later [] on_another ≡ rows
registers_listed = refl

-- ── names and numbers ──

numbers_of_tails : seq_of_tail on_another abcd ≡ Some 1
numbers_of_tails = refl

number_of_second_tail : seq_of_tail on_another efgh ≡ Some 10
number_of_second_tail = refl

no_number_of_tail : seq_of_tail on_another (codes "D-NONE") ≡ None
no_number_of_tail = refl

number_of_second_serial : seq_of_serial on_another e2 ≡ Some 3
number_of_second_serial = refl

-- a serial number is no registration
no_number_of_serial : seq_of_serial on_another abcd ≡ None
no_number_of_serial = refl

second_tail : tail_at on_another 10 ≡ Some efgh
second_tail = refl

-- an entry that adds no aircraft, and numbers that no entry has
no_tail_of_component : tail_at on_another 2 ≡ None
no_tail_of_component = refl

no_tail_at_zero : tail_at on_another 0 ≡ None
no_tail_at_zero = refl

no_tail_past_the_last : tail_at on_another 13 ≡ None
no_tail_past_the_last = refl

second_serial : serial_at on_another 3 ≡ Some e2
second_serial = refl

no_serial_of_aircraft : serial_at on_another 1 ≡ None
no_serial_of_aircraft = refl

-- ── the book that rows give ──

given_back : merged [] entries rows ≡ Some on_another
unfolding digits
given_back = refl

no_rows_no_entries : merged [] [] no_rows ≡ Some []
no_rows_no_entries = refl

-- an entry less, and a row less in any register, are of no book
entry_less : merged [] first_entries rows ≡ None
unfolding digits
entry_less = refl

rows_less : map (merged [] entries)
    (record rows { aircraft = first_aircraft_row ∷ [] } ∷ record rows { places = place 1 1 engine (codes "IO360") ∷ place 1 2 propeller (codes "HC2") ∷ [] }
    ∷ record rows { components = component_with 2 e1 ∷ [] } ∷ record rows { sectors = first_sector_row ∷ second_sector_row ∷ [] }
    ∷ record rows { fittings = fitted_row 4 2 1 (at 19754 0 0) ∷ fitted_row 7 3 1 (at 19783 9 30) ∷ [] } ∷ record rows { removals = removed_row 6 2 ∷ [] } ∷ [])
    ≡ None ∷ None ∷ None ∷ None ∷ None ∷ None ∷ []
unfolding digits
rows_less = refl

-- a sector that names an entry which adds no aircraft, and a removal that no entry states
other_aircraft : merged [] entries (record rows { sectors = record first_sector_row { aircraft = 2 } ∷ second_sector_row ∷ last_sector_row ∷ [] }) ≡ None
unfolding digits
other_aircraft = refl

removal_more : merged [] entries (record rows { removals = removed_row 6 2 ∷ removed_row 8 3 ∷ removed_row 9 3 ∷ [] }) ≡ None
unfolding digits
removal_more = refl

-- the rows with a position more
abbrev with_place : PlaceRow → Rest
with_place row = record rows { places = place 1 1 engine (codes "IO360") ∷ place 1 2 propeller (codes "HC2") ∷ place 10 1 engine (codes "IO360") ∷ row ∷ [] }

-- on the next line of its aircraft it gives another book, in which the aircraft has that position
place_more : option_map place_rows (merged [] entries (with_place (place 10 2 propeller (codes "HC2"))))
    ≡ Some (place 1 1 engine (codes "IO360") ∷ place 1 2 propeller (codes "HC2") ∷ place 10 1 engine (codes "IO360") ∷ place 10 2 propeller (codes "HC2") ∷ [])
unfolding digits
place_more = refl

-- on a line behind that, or of an entry which adds no aircraft, it is of no book
other_place : map (λ row. merged [] entries (with_place row)) (place 10 3 propeller (codes "HC2") ∷ place 11 1 propeller (codes "HC2") ∷ []) ≡ None ∷ None ∷ []
unfolding digits
other_place = refl

-- a row of any register that no entry takes is of no book
aircraft_left : merged [] [] (record no_rows { aircraft = first_aircraft_row ∷ [] }) ≡ None
aircraft_left = refl

place_left : merged [] [] (record no_rows { places = place 1 1 engine (codes "IO360") ∷ [] }) ≡ None
place_left = refl

component_left : merged [] [] (record no_rows { components = component_with 1 e1 ∷ [] }) ≡ None
component_left = refl

sector_left : merged [] [] (record no_rows { sectors = first_sector_row ∷ [] }) ≡ None
sector_left = refl

fitting_left : merged [] [] (record no_rows { fittings = fitted_row 1 1 1 0 ∷ [] }) ≡ None
fitting_left = refl

removal_left : merged [] [] (record no_rows { removals = removed_row 1 1 ∷ [] }) ≡ None
removal_left = refl

-- the rows of an aircraft with one position, and its entry with this number, by this kind
abbrev of_aircraft : ℕ → EntryKind → ℕ → Option (List Entry)
of_aircraft seq kind line = merged [] (entry seq (codes "A1") kind ∷ []) (record no_rows { aircraft = record first_aircraft_row { seq = seq } ∷ []; places = place seq line engine (codes "IO360") ∷ [] })

-- an entry has the next number, its own kind, and lines from 1
number_left_out : of_aircraft 2 AddAircraft 1 ≡ None
number_left_out = refl

other_kind : of_aircraft 1 AddComponent 1 ≡ None
other_kind = refl

line_from_two : of_aircraft 1 AddAircraft 2 ≡ None
line_from_two = refl

-- ── keys ──

kinds_numbered :
    kind_number AddAircraft ∷ kind_number AddComponent ∷ kind_number LoadProgramme ∷ kind_number Opening ∷ kind_number Sector ∷ kind_number Fit ∷ kind_number Remove ∷ kind_number Release
    ∷ kind_number Defer ∷ kind_number Extend ∷ [] ≡ 1 ∷ 2 ∷ 3 ∷ 4 ∷ 5 ∷ 6 ∷ 7 ∷ 8 ∷ 9 ∷ 10 ∷ []
kinds_numbered = refl

second_place_key : place_key (place 10 2 engine (codes "IO360")) ≡ 42949672962
second_place_key = refl

first_number : next [] ≡ 1
first_number = refl
