-- Worked rows that state entries: what the rows of each entry of a book say is what the entry says, counted by hand; and what rows say of names, items, spans, bases and defects.
use Rattle.std.proofs.Common.{refl, ◌≡◌, ℕ, List, [], ◌∷◌, true, false, Option, Some, None, map}
use Rattle.std.specs.Prelude.{codes}
use Rattle.mx_base.specs.declared.category.Category.TheVariants.{B}
use Rattle.mx_base.specs.declared.rows.rows.EntryKind.{EntryKind}
use Rattle.mx_base.specs.declared.rows.rows.EntryKind.TheVariants.{AddAircraft, AddComponent, LoadProgramme, Opening, Sector, Fit, Remove, Release, Defer, Extend}
use Rattle.mx_base.specs.declared.rows.rows.EntryRow.{EntryRow}
use Rattle.mx_base.specs.declared.rows.rows.PlaceRow.{PlaceRow}
use Rattle.mx_base.specs.declared.rows.rows.ReleaseLineRow.{ReleaseLineRow}
use Rattle.mx_book.specs.commands.Act.{Act, Entry, Released}
use Rattle.mx_book.specs.Defect.{defect}
use Rattle.mx_book.specs.declared.commands.item.Item.TheVariants.{Airframe}
use Rattle.mx_book.specs.declared.commands.release.Line.TheVariants as lines
use Rattle.mx_book.specs.declared.commands.release.Place.TheVariants.{Aircraft}
use Rattle.mx_book.proofs.Worked.{abcd, at, first_sector, used}
use Rattle.mx_book.proofs.WorkedDefects.{defer, extend, old, once_extended, once_rectified, rectify, x1, x2, x3, x4}
use Rattle.mx_book.proofs.WorkedFittings.{e1, e2, engine, engine_with, first_aircraft, fit, on_another, propeller, remove}
use Rattle.mx_book.proofs.WorkedProgrammes.{c172, first_four, first_programme, open_task}
use Rattle.mx_registers.specs.Registers.{aircraft_rows, component_rows, deferral_rows, entry_rows, place_rows}
use Rattle.mx_registers.proofs.KeptProofs.WorkedKept.{base_of_task, overhauled, overhaul_of_e1, span_of_e1, span_of_e2}
use Rattle.mx_row_rules.specs.declared.found.stated.Certified.TheVariants.{Done, Rectified}
use Rattle.mx_row_rules.specs.found.Defects.{deferral_aircraft, deferred_said, is_rectified_at, left_said, open_said}
use Rattle.mx_row_rules.specs.found.Given.{found, line_row, places, rows_of, seq_of_line}
use Rattle.mx_row_rules.specs.found.Lives.{base_found, life_in_base}
use Rattle.mx_row_rules.specs.found.Names.{aircraft_number, component_number, deferred_doc, doc_at, doc_in, entries_with, serial_in, tail_in}
use Rattle.mx_row_rules.specs.found.Said.{aircraft_in, component_in, part_in}
use Rattle.mx_row_rules.specs.found.Spans.{begins_with, ends_with, is_removed_by, place_said}
use Rattle.mx_row_rules.specs.found.Stated.{certified_by, certified_in, certified_said, lines_stated, release_stated, stated}

-- ── of each kind ──

abbrev all_stated : List Entry → List (ℕ × EntryKind) → List (Option Act)
all_stated book entries = map (λ (entry : ℕ × EntryKind). stated book entry.0 entry.1) entries

-- D-ABCD with its two positions, E1, its fitting, a sector, the removal, the programme with three tasks, and an overhaul in a shop
stated_in_service : all_stated overhauled ((1, AddAircraft) ∷ (2, AddComponent) ∷ (4, Fit) ∷ (5, Sector) ∷ (6, Remove) ∷ (8, LoadProgramme) ∷ (9, Release) ∷ [])
    ≡ Some first_aircraft.act ∷ Some (engine_with e1) ∷ Some (fit e1 abcd engine (at 19754 0 0)) ∷ Some (first_sector 1).act ∷ Some (remove e1 (at 19783 9 30)) ∷ Some first_programme.act ∷ Some overhaul_of_e1 ∷ []
stated_in_service = refl

-- an opening of the yearly inspection
stated_opening : stated first_four 3 Opening ≡ Some (open_task (Airframe abcd) c172 (codes "ANNUAL") 59000 780 19509)
stated_opening = refl

-- X2 is deferred and extended, and rectified at its aircraft
stated_defects : all_stated once_extended ((3, Defer) ∷ (5, Extend) ∷ []) ≡ Some (defer old (at 19748 23 59) B) ∷ Some (extend x2 19750 3) ∷ []
stated_defects = refl

stated_rectified : stated once_rectified 5 Release ≡ Some (rectify (Aircraft old) (at 19775 9 0) (x2 ∷ []))
stated_rectified = refl

-- in the table of another kind an entry has no row, and neither has a number of none
stated_by_others : all_stated overhauled ((1, AddComponent) ∷ (2, AddAircraft) ∷ (5, LoadProgramme) ∷ (8, Sector) ∷ (9, Opening) ∷ (4, Remove) ∷ (6, Fit) ∷ (1, Release) ∷ (1, Defer) ∷ (1, Extend) ∷ (10, AddAircraft) ∷ [])
    ≡ None ∷ None ∷ None ∷ None ∷ None ∷ None ∷ None ∷ None ∷ None ∷ None ∷ None ∷ []
stated_by_others = refl

-- ── registers ──

-- the positions of D-ABCD, entry 1, and of D-EFGH, entry 10
positions : map (λ n. map (λ (row : PlaceRow). row.position) (found places on_another n)) (1 ∷ 10 ∷ 2 ∷ []) ≡ (engine ∷ propeller ∷ []) ∷ (engine ∷ []) ∷ [] ∷ []
positions = refl

all_positions : map (λ (row : PlaceRow). row.seq) (rows_of places on_another) ≡ 1 ∷ 1 ∷ 10 ∷ []
all_positions = refl

-- X2 is entry 3, and its aircraft entry 1
lines_of : map (seq_of_line once_rectified) (lines.Rectified x2 ∷ lines.Done (Airframe old) (codes "100H") ∷ lines.Rectified x4 ∷ []) ≡ Some 3 ∷ Some 1 ∷ None ∷ []
lines_of = refl

abbrev done_row : ReleaseLineRow
done_row = record { seq = 9; line = 2; item = Some 1; task = Some (codes "100H"); defect = None }

abbrev rectified_row : ReleaseLineRow
rectified_row = record { seq = 9; line = 3; item = None; task = None; defect = Some 3 }

line_rows : line_row 9 2 1 (lines.Done (Airframe old) (codes "100H")) ∷ line_row 9 3 3 (lines.Rectified x2) ∷ [] ≡ done_row ∷ rectified_row ∷ []
line_rows = refl

-- ── lines ──

-- an item and a task without a defect, or a defect alone; nothing else
certified : map certified_in (done_row ∷ rectified_row ∷ []) ≡ Some (Done 1 (codes "100H")) ∷ Some (Rectified 3) ∷ []
certified = refl

uncertified : certified_by None None None ∷ certified_by (Some 1) None None ∷ certified_by None (Some (codes "100H")) None ∷ certified_by (Some 1) (Some (codes "100H")) (Some 3) ∷ certified_by (Some 1) None (Some 3) ∷ []
    ≡ None ∷ None ∷ None ∷ None ∷ None ∷ []
uncertified = refl

-- of entry 1, which is an aircraft, and entry 3, which is a defect; not the other way round
certified_lines : map (certified_said once_rectified) (Done 1 (codes "100H") ∷ Rectified 3 ∷ Done 3 (codes "100H") ∷ Rectified 1 ∷ [])
    ≡ Some (lines.Done (Airframe old) (codes "100H")) ∷ Some (lines.Rectified x2) ∷ None ∷ None ∷ []
certified_lines = refl

both_lines : map (lines_stated once_rectified) ((done_row ∷ rectified_row ∷ []) ∷ [] ∷ (done_row ∷ record rectified_row { defect = Some 1 } ∷ []) ∷ [])
    ≡ Some (lines.Done (Airframe old) (codes "100H") ∷ lines.Rectified x2 ∷ []) ∷ Some [] ∷ None ∷ []
both_lines = refl

-- at the aircraft of entry 1; of a kind that no aircraft's release has, at no place
released : map (λ kind. release_stated once_rectified (rectified_row ∷ []) (record { seq = 9; item = 1; kind = kind; moment = 7 } ∷ [])) (None ∷ Some c172 ∷ [])
    ≡ Some (Released (record { place = Aircraft old; moment = 7 }) (lines.Rectified x2 ∷ [])) ∷ None ∷ []
released = refl

-- ── names ──

-- D-ABCD is entry 1 and E1 entry 2
first_numbers : (aircraft_number (aircraft_rows on_another) ∷ component_number (component_rows on_another) ∷ aircraft_number [] ∷ component_number [] ∷ []) ≡ Some 1 ∷ Some 2 ∷ None ∷ None ∷ []
first_numbers = refl

first_names : (tail_in (aircraft_rows on_another) ∷ serial_in (component_rows on_another) ∷ tail_in [] ∷ serial_in [] ∷ []) ≡ Some abcd ∷ Some e1 ∷ None ∷ None ∷ []
first_names = refl

-- of the entries of D-OLD1 and three defects, the first is its own, and the first that defers is X1
first_documents : (doc_in (entry_rows once_rectified) ∷ deferred_doc (entry_rows once_rectified) ∷ doc_in [] ∷ deferred_doc [] ∷ []) ≡ Some (codes "A1") ∷ Some x1 ∷ None ∷ None ∷ []
first_documents = refl

documents : map (doc_at once_rectified) (1 ∷ 3 ∷ 5 ∷ 6 ∷ 0 ∷ []) ≡ Some (codes "A1") ∷ Some x2 ∷ Some (codes "WO1") ∷ None ∷ None ∷ []
documents = refl

entries : map (λ doc. map (λ (row : EntryRow). row.seq) (entries_with doc once_rectified)) (x2 ∷ x4 ∷ []) ≡ (3 ∷ []) ∷ [] ∷ []
entries = refl

-- ── items ──

first_aircraft_said : aircraft_in (aircraft_rows on_another) ≡ Some (record { tail = abcd; kind = c172; birth = 10957; opening = used 60000 800; as_of = at 19723 0 0 })
first_aircraft_said = refl

first_component_said : component_in (component_rows on_another) ≡ Some (record { serial = e1; part = codes "IO360"; birth = 14610; opening = used 1000 100; as_of = at 19723 0 0 })
first_component_said = refl

parts : map (part_in (place_rows on_another)) (engine ∷ propeller ∷ codes "ENG2" ∷ []) ≡ Some (codes "IO360") ∷ Some (codes "HC2") ∷ None ∷ []
parts = refl

-- the base of the overhaul of E1
base_of_e1 : base_found (base_of_task 2 (codes "OVH") 1090 101 19784 ∷ []) ≡ Some (record { minutes = 1090; cycles = 101; day = 19784 })
base_of_e1 = refl

life_of_e1 : life_in_base (record { minutes = 1090; cycles = 101; day = 19784 }) ≡ used 1090 101
life_of_e1 = refl

-- ── spans ──

-- E1, entry 2, and E2, entry 3
places_of_spans : map (place_said on_another) (span_of_e1 ∷ span_of_e2 ∷ []) ≡ Some (engine, e1) ∷ Some (engine, e2) ∷ []
places_of_spans = refl

-- entry 4 fitted E1 to D-ABCD, entry 1, on 2024-02-01: each part of it counts
begun : begins_with 4 2 1 (record { serial = e1; tail = abcd; position = engine; moment = at 19754 0 0 }) span_of_e1 ≡ true
begun = refl

not_begun : begins_with 5 2 1 (record { serial = e1; tail = abcd; position = engine; moment = at 19754 0 0 }) span_of_e1
    ∷ begins_with 4 3 1 (record { serial = e1; tail = abcd; position = engine; moment = at 19754 0 0 }) span_of_e1
    ∷ begins_with 4 2 2 (record { serial = e1; tail = abcd; position = engine; moment = at 19754 0 0 }) span_of_e1
    ∷ begins_with 4 2 1 (record { serial = e1; tail = abcd; position = propeller; moment = at 19754 0 0 }) span_of_e1
    ∷ begins_with 4 2 1 (record { serial = e1; tail = abcd; position = engine; moment = at 19754 0 1 }) span_of_e1 ∷ []
    ≡ false ∷ false ∷ false ∷ false ∷ false ∷ []
not_begun = refl

-- entry 6 removed it at the landing, and nothing removed E2
removed_by : map (is_removed_by 6) (span_of_e1 ∷ span_of_e2 ∷ []) ≡ true ∷ false ∷ []
removed_by = refl

ended : ends_with 6 2 (record { serial = e1; moment = at 19783 9 30 }) span_of_e1 ∷ ends_with 7 2 (record { serial = e1; moment = at 19783 9 30 }) span_of_e1
    ∷ ends_with 6 3 (record { serial = e1; moment = at 19783 9 30 }) span_of_e1 ∷ ends_with 6 2 (record { serial = e1; moment = at 19783 9 31 }) span_of_e1 ∷ []
    ≡ true ∷ false ∷ false ∷ false ∷ []
ended = refl

-- ── defects ──

-- the aircraft of X1 is entry 1
first_deferral : deferral_aircraft (deferral_rows once_rectified) ∷ deferral_aircraft [] ∷ [] ≡ Some 1 ∷ None ∷ []
first_deferral = refl

-- X2, entry 3, is rectified
rectified : map (is_rectified_at once_rectified) (2 ∷ 3 ∷ 4 ∷ []) ≡ false ∷ true ∷ false ∷ []
rectified = refl

deferred : map (deferred_said once_rectified) (deferral_rows once_rectified) ≡ defect once_rectified x1 ∷ defect once_rectified x2 ∷ defect once_rectified x3 ∷ []
deferred = refl

left : map (left_said once_rectified) (deferral_rows once_rectified) ≡ defect once_rectified x1 ∷ None ∷ defect once_rectified x3 ∷ []
left = refl

open_defects : map (open_said once_rectified old) (deferral_rows once_rectified) ≡ defect once_rectified x1 ∷ None ∷ defect once_rectified x3 ∷ []
open_defects = refl
