-- Worked registers of releases: their rows, and the book that rows give.
use Rattle.std.proofs.Common.{refl, ◌≡◌, ℕ, List, [], ◌∷◌, true, Option, Some, None}
use Rattle.std.specs.Prelude.{codes, map}
use Rattle.std.specs.List.{list_all}
use Rattle.mx_book.specs.commands.Act.{Act, Entry, Released}
use Rattle.mx_book.specs.commands.Shape.{has_shape}
use Rattle.mx_book.specs.declared.commands.item.Item.TheVariants as items
use Rattle.mx_book.specs.declared.commands.release.Line.{Line}
use Rattle.mx_book.specs.declared.commands.release.Line.TheVariants.{Done}
use Rattle.mx_book.specs.declared.commands.release.Place.{Place}
use Rattle.mx_book.specs.declared.commands.release.Place.TheVariants.{Aircraft, Shop}
use Rattle.mx_book.specs.Book.{is_book}
use Rattle.mx_book.proofs.Worked.{at, abcd, logged}
use Rattle.mx_book.proofs.WorkedFittings.{engine, propeller, e1, e2, engine_with, first_aircraft, fit}
use Rattle.mx_base.specs.declared.rows.rows.EntryKind.TheVariants as kinds
use Rattle.mx_base.specs.declared.rows.rows.EntryRow.{EntryRow}
use Rattle.mx_base.specs.declared.rows.rows.ReleaseRow.{ReleaseRow}
use Rattle.mx_base.specs.declared.rows.rows.ReleaseLineRow.{ReleaseLineRow}
use Rattle.mx_base.specs.rows.Rows.{release_line_key}
use Rattle.mx_registers.specs.Registers.{entry_rows}
use Rattle.mx_registers.specs.Merge.{Rest, place_said, line_said, take_release_lines, merged}
use Rattle.mx_registers.proofs.MergeLemmas.{all_later}
use Rattle.mx_registers.proofs.Worked.{entry, first_aircraft_row, place, component_with, fitted_row, no_rows}
use Rattle.mx_registers.proofs.WorkedProgrammes.{c172, hundred_hours, once, loaded, programme, hundred_hours_row, once_row}

-- ── the rows of a book: an aircraft with an engine, another engine, a programme, a release at the aircraft and one in a shop ──

abbrev released : Place → ℕ → List Line → Act
released place moment lines = Released (record { place = place; moment = moment }) lines

-- at D-ABCD, on 2024-03-02 at 10:00, the inspection of its airframe and the work on the engine E1 that flies with it
abbrev at_aircraft : Act
at_aircraft = released (Aircraft abcd) (at 19784 10 0) (Done (items.Airframe abcd) (codes "100H") ∷ Done (items.Component e1) (codes "SB7") ∷ [])

-- in a shop, the work on the engine E2
abbrev in_shop : Act
in_shop = released (Shop e2 c172) (at 19785 12 0) (Done (items.Component e2) (codes "SB7") ∷ [])

abbrev releases : List Entry
releases = first_aircraft ∷ logged (codes "C1") (engine_with e1) ∷ logged (codes "P1") (loaded 1 (hundred_hours ∷ once ∷ [])) ∷ logged (codes "C2") (engine_with e2)
    ∷ logged (codes "F1") (fit e1 abcd engine (at 19754 0 0)) ∷ logged (codes "WO1") at_aircraft ∷ logged (codes "WO2") in_shop ∷ []

shapes : list_all has_shape releases ≡ true
shapes = refl

accepted : is_book releases ≡ true
accepted = refl

abbrev entries : List EntryRow
entries = entry 1 (codes "A1") kinds.AddAircraft ∷ entry 2 (codes "C1") kinds.AddComponent ∷ entry 3 (codes "P1") kinds.LoadProgramme ∷ entry 4 (codes "C2") kinds.AddComponent
    ∷ entry 5 (codes "F1") kinds.Fit ∷ entry 6 (codes "WO1") kinds.Release ∷ entry 7 (codes "WO2") kinds.Release ∷ []

-- the release at the aircraft, with this number for its item and with this kind
abbrev aircraft_release : ℕ → Option (List ℕ) → ReleaseRow
aircraft_release item kind = record { seq = 6; item = item; kind = kind; moment = at 19784 10 0 }

-- the release in the shop, with this number for its item and with this kind
abbrev shop_release : ℕ → Option (List ℕ) → ReleaseRow
shop_release item kind = record { seq = 7; item = item; kind = kind; moment = at 19785 12 0 }

-- a task that was done on the item with this number
abbrev done_row : ℕ → ℕ → ℕ → List ℕ → ReleaseLineRow
done_row seq line item task = record { seq = seq; line = line; item = Some item; task = Some task; defect = None }

abbrev inspection_row : ReleaseLineRow
inspection_row = done_row 6 1 1 (codes "100H")

abbrev engine_row : ReleaseLineRow
engine_row = done_row 6 2 2 (codes "SB7")

abbrev shop_row : ReleaseLineRow
shop_row = done_row 7 1 4 (codes "SB7")

abbrev rows : Rest
rows = record no_rows {
  aircraft = first_aircraft_row ∷ [];
  places = place 1 1 engine (codes "IO360") ∷ place 1 2 propeller (codes "HC2") ∷ [];
  components = component_with 2 e1 ∷ component_with 4 e2 ∷ [];
  programmes = programme 3 1 ∷ [];
  tasks = hundred_hours_row ∷ once_row ∷ [];
  fittings = fitted_row 5 2 1 (at 19754 0 0) ∷ [];
  releases = aircraft_release 1 None ∷ shop_release 4 (Some c172) ∷ [];
  release_lines = inspection_row ∷ engine_row ∷ shop_row ∷ [];
}

entries_listed : entry_rows releases ≡ entries
entries_listed = refl

-- each release has the number of the entry that added its aircraft, or its component and then a kind; its lines are numbered from 1, and have the numbers of the entries that added their items
registers_listed : all_later [] releases ≡ rows
registers_listed = refl

-- ── what rows say ──

-- an aircraft without a kind and a component with one are places, the others none, and so is an entry that adds no item
places_of_rows : map (place_said releases) (aircraft_release 1 None ∷ shop_release 4 (Some c172) ∷ aircraft_release 1 (Some c172) ∷ shop_release 4 None ∷ aircraft_release 3 None ∷ shop_release 0 (Some c172) ∷ [])
    ≡ Some (Aircraft abcd) ∷ Some (Shop e2 c172) ∷ None ∷ None ∷ None ∷ None ∷ []
places_of_rows = refl

-- an item and a task without a defect are a line, the others none, and so is an entry that adds no item
lines_of_rows : map (line_said releases) (inspection_row ∷ shop_row ∷ record shop_row { item = None } ∷ record shop_row { task = None } ∷ record shop_row { defect = Some 1 } ∷ done_row 7 1 3 (codes "SB7") ∷ [])
    ≡ Some (Done (items.Airframe abcd) (codes "100H")) ∷ Some (Done (items.Component e2) (codes "SB7")) ∷ None ∷ None ∷ None ∷ None ∷ []
lines_of_rows = refl

-- the lines of another entry, those from another line on, and those from one that says nothing on, are not taken
lines_of_entry : take_release_lines releases 6 rows.release_lines ≡ (Done (items.Airframe abcd) (codes "100H") ∷ Done (items.Component e1) (codes "SB7") ∷ [], shop_row ∷ [])
lines_of_entry = refl

no_lines_of_entry : take_release_lines releases 7 rows.release_lines ≡ ([], rows.release_lines)
no_lines_of_entry = refl

no_line_from_two : take_release_lines releases 6 (engine_row ∷ []) ≡ ([], engine_row ∷ [])
no_line_from_two = refl

one_line_alone : take_release_lines releases 6 (inspection_row ∷ record engine_row { defect = Some 1 } ∷ []) ≡ (Done (items.Airframe abcd) (codes "100H") ∷ [], record engine_row { defect = Some 1 } ∷ [])
one_line_alone = refl

-- ── the book that rows give ──

given_back : merged [] entries rows ≡ Some releases
given_back = refl

abbrev with_lines : List ReleaseLineRow → Option (List Entry)
with_lines lines = merged [] entries (record rows { release_lines = lines })

abbrev with_releases : ReleaseRow → ReleaseRow → Option (List Entry)
with_releases one other = merged [] entries (record rows { releases = one ∷ other ∷ [] })

-- a release at an aircraft that has a kind, or names a component, or an entry that adds nothing
other_place : map (λ row. with_releases row (shop_release 4 (Some c172))) (aircraft_release 1 (Some c172) ∷ aircraft_release 2 None ∷ aircraft_release 3 None ∷ []) ≡ None ∷ None ∷ None ∷ []
other_place = refl

-- a release in a shop that has no kind, or names an aircraft, or the engine that is fitted
other_shop : map (λ row. with_releases (aircraft_release 1 None) row) (shop_release 4 None ∷ shop_release 1 (Some c172) ∷ shop_release 2 (Some c172) ∷ []) ≡ None ∷ None ∷ None ∷ []
other_shop = refl

-- a line that has a defect, no item or no task
line_of_two_kinds : map (λ line. with_lines (inspection_row ∷ line ∷ shop_row ∷ [])) (record engine_row { defect = Some 1 } ∷ record engine_row { item = None } ∷ record engine_row { task = None } ∷ []) ≡ None ∷ None ∷ None ∷ []
line_of_two_kinds = refl

-- a line on another than the next, and a release without a line
line_on_third : with_lines (inspection_row ∷ record engine_row { line = 3 } ∷ shop_row ∷ []) ≡ None
line_on_third = refl

release_without_line : with_lines (inspection_row ∷ engine_row ∷ []) ≡ None
release_without_line = refl

-- a release less
release_less : merged [] entries (record rows { releases = aircraft_release 1 None ∷ [] }) ≡ None
release_less = refl

-- a row that no entry takes is of no book
release_left : merged [] [] (record no_rows { releases = shop_release 4 (Some c172) ∷ [] }) ≡ None
release_left = refl

release_line_left : merged [] [] (record no_rows { release_lines = shop_row ∷ [] }) ≡ None
release_line_left = refl

second_release_line_key : release_line_key engine_row ≡ 25769803778
second_release_line_key = refl
