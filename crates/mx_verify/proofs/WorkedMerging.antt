-- Worked rows: what registers give, and why they are those of no book.
use Rattle.std.proofs.Common.{refl, ◌≡◌, ℕ, ◌+◌, [], ◌∷◌, Ok, Err}
use Rattle.std.specs.Prelude.{codes}
use Rattle.std.specs.Fmt.{digits}
use Rattle.mx_book.proofs.Worked.{a1, at}
use Rattle.mx_base.specs.declared.rows.rows.EntryKind.TheVariants.{AddAircraft, AddComponent, Fit, Remove, Sector}
use Rattle.mx_base.specs.declared.rows.rows.EntryRow.{EntryRow}
use Rattle.mx_base.specs.declared.rows.rows.SectorRow.{SectorRow}
use Rattle.mx_registers.proofs.Worked.{component_with, entry, first_aircraft_row, fitted_row, no_rows}
use Rattle.mx_registers.specs.Merge.{Rest}
use Rattle.mx_verify.specs.declared.merged.merged.NoBook.TheVariants.{Damaged, Differs}
use Rattle.mx_verify.specs.merged.Merging.{merging}

-- ── the rows of one aircraft, and an entry behind it ──

abbrev added : EntryRow
added = entry 1 (codes "A1") AddAircraft

abbrev one : Rest
one = record no_rows { aircraft = first_aircraft_row ∷ [] }

abbrev flown : EntryRow
flown = entry 2 (codes "TL/D-ABCD/12/1") Sector

-- a sector of the aircraft that this entry added, in this hour of the day
abbrev sector : ℕ → ℕ → ℕ → ℕ → SectorRow
sector seq aircraft day hour = record { seq = seq; aircraft = aircraft; page = 12; line = 1; took_off = at day hour 0; landed = at day (hour + 1) 30; cycles = 1 }

abbrev with_sector : SectorRow → Rest
with_sector row = record one { sectors = row ∷ [] }

-- ── a book ──

of_nothing : merging [] [] no_rows ≡ Ok []
of_nothing = refl

of_an_aircraft : merging [] (added ∷ []) one ≡ Ok (a1 ∷ [])
of_an_aircraft = refl

-- ── rows are missing or too many, or numbers leave one out: no row is to blame ──

row_left : merging [] [] one ≡ Err Differs
row_left = refl

row_missing : merging [] (added ∷ []) no_rows ≡ Err Differs
row_missing = refl

number_left_out : merging [] (entry 2 (codes "A1") AddAircraft ∷ []) one ≡ Err Differs
number_left_out = refl

entry_missing : merging [] (added ∷ []) (with_sector (sector 2 1 19783 8)) ≡ Err Differs
entry_missing = refl

row_of_another_entry : merging [] (added ∷ flown ∷ []) (with_sector (sector 3 1 19783 8)) ≡ Err Differs
row_of_another_entry = refl

kind_of_another_entry : merging [] (added ∷ entry 2 (codes "R1") Remove ∷ []) (with_sector (sector 2 1 19783 8)) ≡ Err Differs
kind_of_another_entry = refl

-- ── the row of an entry is to blame: it names what is not there, says no command of its shape, or what the entries before refuse ──

sector_of_no_aircraft : merging [] (added ∷ flown ∷ []) (with_sector (sector 2 7 19783 8)) ≡ Err (Damaged Sector)
sector_of_no_aircraft = refl

fitting_of_no_component : merging [] (added ∷ entry 2 (codes "F1") Fit ∷ []) (record one { fittings = fitted_row 2 9 1 (at 19754 0 0) ∷ [] }) ≡ Err (Damaged Fit)
fitting_of_no_component = refl

fitting_in_no_position : merging [] (added ∷ entry 2 (codes "C1") AddComponent ∷ entry 3 (codes "F1") Fit ∷ []) (record one { components = component_with 2 (codes "E1") ∷ []; fittings = fitted_row 3 2 1 (at 19754 0 0) ∷ [] }) ≡ Err (Damaged Fit)
fitting_in_no_position = refl

sector_before_the_opening : merging [] (added ∷ flown ∷ []) (with_sector (sector 2 1 19700 8)) ≡ Err (Damaged Sector)
unfolding digits
sector_before_the_opening = refl

aircraft_added_twice : merging [] (added ∷ entry 2 (codes "A2") AddAircraft ∷ []) (record one { aircraft = first_aircraft_row ∷ record first_aircraft_row { seq = 2 } ∷ [] }) ≡ Err (Damaged AddAircraft)
aircraft_added_twice = refl

-- of two reasons the entry that comes first has its own told
first_of_two : merging [] (added ∷ flown ∷ []) (record one { sectors = sector 2 7 19783 8 ∷ sector 3 1 19784 8 ∷ [] }) ≡ Err (Damaged Sector)
first_of_two = refl
