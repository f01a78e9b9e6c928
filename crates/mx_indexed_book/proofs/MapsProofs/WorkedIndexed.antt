-- Worked rows of the maps: what they answer of books in which components are replaced and a programme is revised, and what the next entry changes, counted by hand.
use Rattle.std.proofs.Common.{refl, ◌≡◌, ℕ, List, [], ◌∷◌, Bool, true, false, Some, None, map}
use Rattle.std.specs.Prelude.{codes}
use Rattle.std.specs.List.{filter_map}
use Rattle.std.specs.Ordering.{nat_cmp}
use Rattle.std.specs.Cmp.Lexicographic.{slice_cmp}
use Rattle.mx_book.specs.commands.Act.{Act, Entry, Flown, Released}
use Rattle.mx_book.specs.declared.commands.item.Item.TheVariants.{Airframe, Component}
use Rattle.mx_book.specs.declared.commands.release.Line.{Line}
use Rattle.mx_book.specs.declared.commands.release.Line.TheVariants.{Done, Rectified}
use Rattle.mx_book.specs.declared.commands.release.Place.TheVariants as places
use Rattle.mx_book.proofs.Worked.{abcd, at, logged, used}
use Rattle.mx_book.proofs.WorkedDefects.{x1}
use Rattle.mx_book.proofs.WorkedFittings.{e1, e2, efgh, engine, first_aircraft, propeller, remove, replaced}
use Rattle.mx_book.proofs.WorkedProgrammes.{annual, c172, first_four, load, second_revision}
use Rattle.mx_indexed_book.specs.maps.Clocks.{airframe_clock, clocks_changed, raised}
use Rattle.mx_indexed_book.specs.maps.Lives.{components_changed, lead, lead_over}
use Rattle.mx_indexed_book.specs.maps.Maps.{changed, changed_all}
use Rattle.mx_indexed_book.specs.maps.Movements.{behind, fitted_before, last_behind, movement_at, movements, movements_changed}
use Rattle.mx_indexed_book.specs.maps.Places.{has_component, place_of, places_changed}
use Rattle.mx_indexed_book.specs.maps.Positions.{part_of, parts_given}
use Rattle.mx_indexed_book.specs.maps.Programmes.{last_loaded, programme_changed}
use Rattle.mx_indexed_book.specs.maps.Registers.{number_of}
use Rattle.mx_indexed_book.specs.declared.maps.movements.Movement.{Movement}
use Rattle.mx_indexed_book.specs.maps.Work.{airframe_task, component_task, keyed, line_defect, tasks_done}

-- ── changes ──

-- a change of E1 leaves E2, and the last of two changes of E1 stands
one_change : map {B = ℕ} (λ name. changed (slice_cmp nat_cmp) (Some (e1, 7)) name 5) (e1 ∷ e2 ∷ []) ≡ 7 ∷ 5 ∷ []
one_change = refl

last_change : map {B = ℕ} (λ name. changed_all (slice_cmp nat_cmp) ((e1, 1) ∷ (e2, 2) ∷ (e1, 3) ∷ []) name 0) (e1 ∷ e2 ∷ engine ∷ []) ≡ 3 ∷ 2 ∷ 0 ∷ []
last_change = refl

-- ── components that are replaced: seven entries, of which F1 is the fourth and R1 the sixth ──

documents : map (number_of replaced) (codes "F1" ∷ codes "R1" ∷ codes "X9" ∷ []) ≡ Some 4 ∷ Some 6 ∷ None ∷ []
documents = refl

-- E1 was removed, and E2 is fitted in its place
fitted_at : map (place_of replaced) (e1 ∷ e2 ∷ []) ≡ None ∷ Some (abcd, engine) ∷ []
fitted_at = refl

taken : map (has_component replaced) ((abcd, engine) ∷ (abcd, propeller) ∷ []) ≡ true ∷ false ∷ []
taken = refl

parts : map (part_of replaced) ((abcd, engine) ∷ (abcd, propeller) ∷ (abcd, e1) ∷ []) ≡ Some (codes "IO360") ∷ Some (codes "HC2") ∷ None ∷ []
parts = refl

parts_added : parts_given first_aircraft.act ≡ ((abcd, engine), Some (codes "IO360")) ∷ ((abcd, propeller), Some (codes "HC2")) ∷ []
parts_added = refl

-- the removal of E2 takes it from its position, and gives its moment to the clocks of D-ABCD and of E2
abbrev removal : Entry
removal = logged (codes "R2") (remove e2 (at 19783 9 30))

removed : places_changed replaced removal ≡ record { component = Some (e2, None); place = Some ((abcd, engine), false) }
removed = refl

clocks_then : clocks_changed replaced removal ≡ record { airframe = Some (abcd, at 19783 9 30); component = Some (e2, at 19783 9 30) }
clocks_then = refl

-- no moment before a clock sets it back
not_set_back : map (λ minutes. raised (airframe_clock replaced) (Some (abcd, at 19783 9 minutes))) (29 ∷ 30 ∷ 31 ∷ []) ≡ Some (abcd, at 19783 9 30) ∷ Some (abcd, at 19783 9 30) ∷ Some (abcd, at 19783 9 31) ∷ []
not_set_back = refl

-- E1 is fitted nowhere and has flown its 90 minutes; E2 has its 1,000 minutes, and flies with an airframe of 60,090
leads : map (lead replaced) (e1 ∷ e2 ∷ []) ≡ Some (lead_over (used 0 0) (used 1090 101)) ∷ Some (lead_over (used 60090 801) (used 1000 100)) ∷ []
leads = refl

-- ── movements ──

abbrev moved : List ℕ → ℕ → Bool → Movement
moved serial moment is_fitting = record { serial = serial; moment = moment; is_fitting = is_fitting }

-- E2 was fitted last, when E1 was removed, which had been fitted first
abbrev fitted_last : Movement
fitted_last = moved e2 (at 19783 9 30) true

abbrev removed_before : Movement
removed_before = moved e1 (at 19783 9 30) false

abbrev fitted_first : Movement
fitted_first = moved e1 (at 19754 0 0) true

moved_there : map (movements replaced) (abcd ∷ efgh ∷ []) ≡ (fitted_last ∷ removed_before ∷ fitted_first ∷ []) ∷ [] ∷ []
moved_there = refl

moved_at : map (λ place. movement_at replaced (abcd, place)) (0 ∷ 1 ∷ 2 ∷ 3 ∷ []) ≡ Some fitted_first ∷ Some removed_before ∷ Some fitted_last ∷ None ∷ []
moved_at = refl

-- the removal of E2 is the fourth
moved_then : movements_changed replaced removal ≡ record { count = Some (abcd, 4); added = Some ((abcd, 3), Some (moved e2 (at 19783 9 30) false)) }
moved_then = refl

-- two came behind nine o'clock, none behind the last
moved_behind : map (λ minutes. behind (at 19783 9 minutes) (movements replaced abcd)) (0 ∷ 30 ∷ []) ≡ (fitted_last ∷ removed_before ∷ []) ∷ [] ∷ []
moved_behind = refl

last_of : map (λ count. last_behind (at 19783 9 0) (movements replaced abcd) count) (3 ∷ 2 ∷ 1 ∷ 0 ∷ []) ≡ Some fitted_last ∷ Some removed_before ∷ None ∷ None ∷ []
last_of = refl

-- before these E1 was fitted, and E2 was not; before all three neither was
fitted_then : fitted_before e1 false (fitted_last ∷ removed_before ∷ []) ≡ true
fitted_then = refl

fitted_not_yet : map (λ serial. fitted_before serial true (movements replaced abcd)) (e1 ∷ e2 ∷ []) ≡ false ∷ false ∷ []
fitted_not_yet = refl

-- from eight to nine o'clock E1 flies, with which the sector leaves it 1,150 minutes and 102 cycles, and not E2, whose airframe has 60,150 and 802 then
leads_then : components_changed replaced (Flown (record { tail = abcd; page = 11; line = 9; off = at 19783 8 0; on = at 19783 9 0; cycles = 1 }))
    ≡ (e2, Some (lead_over (used 60150 802) (used 1000 100))) ∷ (e1, Some (lead_over (used 0 0) (used 1150 102))) ∷ []
leads_then = refl

-- a removal changes the lead of what it removes, a sector by the last movement none
leads_removed : components_changed replaced removal.act ≡ (e2, Some (lead_over (used 0 0) (used 1000 100))) ∷ []
leads_removed = refl

leads_kept : components_changed replaced (Flown (record { tail = abcd; page = 12; line = 1; off = at 19783 9 30; on = at 19783 10 0; cycles = 1 })) ≡ []
leads_kept = refl

-- ── a programme that is revised: the second entry has the first, the fifth the second ──

loaded : map (λ book. last_loaded book c172) (first_four ∷ second_revision ∷ []) ≡ Some 2 ∷ Some 5 ∷ []
loaded = refl

not_loaded : last_loaded second_revision (codes "PA28") ≡ None
not_loaded = refl

loaded_next : programme_changed second_revision (logged (codes "P3") (load c172 3 (annual ∷ []))) ≡ Some (c172, Some 6)
loaded_next = refl

-- ── work ──

abbrev lines : List Line
lines = Done (Airframe abcd) (codes "100H") ∷ Rectified x1 ∷ Done (Component e1) (codes "OVH") ∷ []

abbrev released : Act
released = Released (record { place = places.Aircraft abcd; moment = at 19784 0 0 }) lines

tasks : tasks_done released ≡ (Airframe abcd, codes "100H") ∷ (Component e1, codes "OVH") ∷ []
tasks = refl

airframe_work : filter_map (keyed airframe_task) (tasks_done released) ≡ ((abcd, codes "100H"), true) ∷ []
airframe_work = refl

component_work : filter_map (keyed component_task) (tasks_done released) ≡ ((e1, codes "OVH"), true) ∷ []
component_work = refl

rectified : filter_map line_defect lines ≡ (x1, true) ∷ []
rectified = refl
