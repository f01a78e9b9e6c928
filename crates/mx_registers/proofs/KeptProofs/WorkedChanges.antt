-- Worked changes: what one command makes of spans, totals and last bases, and which it touches, counted by hand.
use Rattle.std.proofs.Common.{refl, ◌≡◌, ℕ, length, List, [], ◌∷◌, true, false, Option, Some, None, ◌++◌}
use Rattle.std.specs.Prelude.{codes, map}
use Rattle.mx_book.specs.commands.Act.{Act, Flown, Deferred}
use Rattle.mx_base.specs.declared.category.Category.TheVariants.{C}
use Rattle.mx_book.specs.declared.commands.item.Item.{Item}
use Rattle.mx_book.specs.declared.commands.item.Item.TheVariants.{Airframe, Component}
use Rattle.mx_book.specs.declared.commands.release.Place.TheVariants.{Aircraft, Shop}
use Rattle.mx_book.specs.declared.commands.sector.Sector.{Sector}
use Rattle.mx_book.specs.Span.{Span, spans, is_fitted_to}
use Rattle.mx_book.proofs.Worked.{at, abcd, logged}
use Rattle.mx_book.proofs.WorkedFittings.{engine, propeller, e1, e2, engine_with, fit, remove}
use Rattle.mx_book.proofs.WorkedProgrammes.{c172, minutes_alone, open_task}
use Rattle.mx_base.specs.declared.rows.rows.SpanRow.{SpanRow}
use Rattle.mx_registers.specs.Registers.{fitting_rows, fittings_by}
use Rattle.mx_registers.specs.kept.Bases.{each_once, is_keyed, tasks_accomplished, tasks_by}
use Rattle.mx_registers.specs.kept.Becomes.{adding, bases_become, spans_become, totals_become}
use Rattle.mx_registers.specs.kept.Changes.{due_at, ended_by, entry_of, moments_given, sectors_given, sectors_late}
use Rattle.mx_registers.specs.kept.Spans.{is_span_touched, span_ended, span_rows, spans_opened}
use Rattle.mx_registers.specs.kept.Totals.{clocked_row, credited_row, numbers_touched, raised_row, set_row, total_by_number, total_changed, total_rows}
use Rattle.mx_registers.proofs.KeptProofs.WorkedKept.{base_of_task, flown, in_service, overhauled, span_of_e1, span_of_e2, total, overhaul_of_e1, work_on_abcd}

-- ── spans ──

-- E2 is removed on 2024-03-05 at 10:00, by entry 9
abbrev removal_of_e2 : Act
removal_of_e2 = remove e2 (at 19787 10 0)

abbrev ended_span : SpanRow
ended_span = record { fit_seq = 7; component = 3; aircraft = 1; position = engine; from = at 19783 9 30; remove_seq = Some 9; to = Some (at 19787 10 0) }

removal_ends_one : map (span_ended in_service removal_of_e2) (span_rows in_service) ≡ span_of_e1 ∷ ended_span ∷ []
removal_ends_one = refl

-- a second removal of E1 ends nothing
removal_ends_none : map (span_ended in_service (remove e1 (at 19787 10 0))) (span_rows in_service) ≡ span_of_e1 ∷ span_of_e2 ∷ []
removal_ends_none = refl

removal_touches : map (is_span_touched in_service removal_of_e2) (span_of_e1 ∷ span_of_e2 ∷ []) ≡ false ∷ true ∷ []
removal_touches = refl

abbrev span : List ℕ → ℕ → Option ℕ → Span
span serial from to = record { serial = serial; tail = abcd; position = engine; from = from; to = to }

spans_ended : map (ended_by removal_of_e2) (spans in_service) ≡ span e1 (at 19754 0 0) (Some (at 19783 9 30)) ∷ span e2 (at 19783 9 30) (Some (at 19787 10 0)) ∷ []
spans_ended = refl

no_span_ended : map (ended_by (remove e1 (at 19787 10 0))) (spans in_service) ≡ span e1 (at 19754 0 0) (Some (at 19783 9 30)) ∷ span e2 (at 19783 9 30) None ∷ []
no_span_ended = refl

-- E1 is fitted in place of the propeller, by entry 9
abbrev fitting_of_e1 : Act
fitting_of_e1 = fit e1 abcd propeller (at 19787 12 0)

abbrev opened_span : SpanRow
opened_span = record { fit_seq = 9; component = 2; aircraft = 1; position = propeller; from = at 19787 12 0; remove_seq = None; to = None }

fitting_opens : spans_opened in_service fitting_of_e1 ≡ opened_span ∷ []
fitting_opens = refl

spans_with_fitting : spans_become in_service (logged (codes "F3") fitting_of_e1) (span_rows in_service) ≡ span_of_e1 ∷ span_of_e2 ∷ opened_span ∷ []
spans_with_fitting = refl

-- to the register the fitting is added, behind the two that it has
fittings_added : map (λ row. row.seq) (adding fittings_by in_service (logged (codes "F3") fitting_of_e1) (fitting_rows in_service)) ≡ 4 ∷ 7 ∷ 9 ∷ []
fittings_added = refl

-- ── what a command gives ──

abbrev three : List Item
three = Airframe abcd ∷ Component e1 ∷ Component e2 ∷ []

-- an hour on 2024-03-02, and an hour on the morning before E2 was fitted
abbrev after : Sector
after = flown (at 19784 8 0) (at 19784 9 0)

abbrev before : Sector
before = flown (at 19783 6 0) (at 19783 7 0)

sectors_of_items : map (λ item. length (sectors_given in_service item (Flown after))) three ≡ 1 ∷ 0 ∷ 1 ∷ []
sectors_of_items = refl

sectors_of_items_before : map (λ item. length (sectors_given in_service item (Flown before))) three ≡ 1 ∷ 1 ∷ 0 ∷ []
sectors_of_items_before = refl

-- a sector that takes off by the clock is late for no item, and one that had landed before it for each that it is given to
late_for_none : map (λ item. length (sectors_late in_service item (Flown after))) three ≡ 0 ∷ 0 ∷ 0 ∷ []
late_for_none = refl

late_for_two : map (λ item. length (sectors_late in_service item (Flown before))) three ≡ 1 ∷ 1 ∷ 0 ∷ []
late_for_two = refl

fitted_there : map (is_fitted_to in_service abcd) (e1 ∷ e2 ∷ []) ≡ false ∷ true ∷ []
fitted_there = refl

-- a removal moves the clock of the component, and of the aircraft that it was fitted to
moments_of_removal : map (λ item. moments_given in_service item removal_of_e2) three ≡ (at 19787 10 0 ∷ []) ∷ [] ∷ (at 19787 10 0 ∷ []) ∷ []
moments_of_removal = refl

-- ── totals ──

totals_with_sector : map (total_changed in_service (Flown after)) (total_rows in_service) ≡ total 1 60150 802 (at 19784 9 0) ∷ total 2 1090 101 (at 19783 9 30) ∷ total 3 1060 101 (at 19783 9 30) ∷ []
totals_with_sector = refl

-- entered late, it goes to E1 and moves no clock
totals_with_late_sector : map (total_changed in_service (Flown before)) (total_rows in_service) ≡ total 1 60150 802 (at 19783 9 30) ∷ total 2 1150 102 (at 19783 9 30) ∷ total 3 1000 100 (at 19783 9 30) ∷ []
totals_with_late_sector = refl

-- a third engine has the use that it brought with it
total_opened : totals_become in_service (logged (codes "C3") (engine_with (codes "E3"))) [] ≡ total 9 1000 100 (at 19723 0 0) ∷ []
total_opened = refl

rows_credited : map (credited_row (1 ∷ 3 ∷ []) after) (total 1 10 1 5 ∷ total 2 10 1 5 ∷ total 3 10 1 5 ∷ []) ≡ total 1 70 2 5 ∷ total 2 10 1 5 ∷ total 3 70 2 5 ∷ []
rows_credited = refl

-- a clock is raised to a later moment, stays at an earlier one, and is set to either
rows_raised : map (raised_row 1 7) (total 1 10 1 5 ∷ total 1 10 1 9 ∷ total 2 10 1 5 ∷ []) ≡ total 1 10 1 7 ∷ total 1 10 1 9 ∷ total 2 10 1 5 ∷ []
rows_raised = refl

rows_set : map (set_row 1 7) (total 1 10 1 5 ∷ total 1 10 1 9 ∷ total 2 10 1 5 ∷ []) ≡ total 1 10 1 7 ∷ total 1 10 1 7 ∷ total 2 10 1 5 ∷ []
rows_set = refl

rows_clocked : map (clocked_row (1 ∷ 3 ∷ []) 7) (total 1 10 1 5 ∷ total 2 10 1 5 ∷ total 3 10 1 9 ∷ []) ≡ total 1 10 1 7 ∷ total 2 10 1 5 ∷ total 3 10 1 9 ∷ []
rows_clocked = refl

-- a fitting touches the aircraft and the component, a deferral the aircraft, and a new component nothing that is there
abbrev deferral : Act
deferral = Deferred (record { tail = abcd; moment = at 19784 12 0; reference = codes "21-31-01"; category = C })

touched_by : map (numbers_touched in_service) (fitting_of_e1 ∷ deferral ∷ engine_with (codes "E3") ∷ []) ≡ (1 ∷ 2 ∷ []) ∷ (1 ∷ []) ∷ [] ∷ []
touched_by = refl

-- by the numbers alone: a removal raises the clocks of the component and of its aircraft, a fitting likewise, work in a shop that of its component, and a deferral that of the aircraft
totals_of_removal : map (total_by_number in_service removal_of_e2) (total_rows in_service) ≡ total 1 60090 801 (at 19787 10 0) ∷ total 2 1090 101 (at 19783 9 30) ∷ total 3 1000 100 (at 19787 10 0) ∷ []
totals_of_removal = refl

totals_of_fitting : map (total_by_number in_service fitting_of_e1) (total_rows in_service) ≡ total 1 60090 801 (at 19787 12 0) ∷ total 2 1090 101 (at 19787 12 0) ∷ total 3 1000 100 (at 19783 9 30) ∷ []
totals_of_fitting = refl

totals_of_overhaul : map (total_by_number in_service overhaul_of_e1) (total_rows in_service) ≡ total 1 60090 801 (at 19783 9 30) ∷ total 2 1090 101 (at 19784 0 0) ∷ total 3 1000 100 (at 19783 9 30) ∷ []
totals_of_overhaul = refl

totals_of_deferral : map (total_by_number in_service deferral) (total_rows in_service) ≡ total 1 60090 801 (at 19784 12 0) ∷ total 2 1090 101 (at 19783 9 30) ∷ total 3 1000 100 (at 19783 9 30) ∷ []
totals_of_deferral = refl

-- a sector credits the aircraft and E2 with its hour, and one that is entered late the aircraft and E1
totals_of_sector : map (total_by_number in_service (Flown after)) (total_rows in_service) ≡ total 1 60150 802 (at 19784 9 0) ∷ total 2 1090 101 (at 19783 9 30) ∷ total 3 1060 101 (at 19783 9 30) ∷ []
totals_of_sector = refl

totals_of_late_sector : map (total_by_number in_service (Flown before)) (total_rows in_service) ≡ total 1 60150 802 (at 19783 9 30) ∷ total 2 1150 102 (at 19783 9 30) ∷ total 3 1000 100 (at 19783 9 30) ∷ []
totals_of_late_sector = refl

-- ── last bases ──

-- the overhaul of E1 at 1,090 minutes is due again 120,000 minutes later, and that of E2 for the first time at 120,000
overhaul_due : due_at overhauled (Shop e1 c172) (Component e1) (codes "OVH") ≡ Some (minutes_alone 121090)
overhaul_due = refl

overhaul_due_first : due_at overhauled (Aircraft abcd) (Component e2) (codes "OVH") ≡ Some (minutes_alone 120000)
overhaul_due_first = refl

abbrev opening : Act
opening = open_task (Airframe abcd) c172 (codes "ANNUAL") 59000 780 19509

opening_sets : bases_become in_service (entry_of (codes "O1") opening) (base_of_task 2 (codes "OVH") 1090 101 19784 ∷ []) ≡ base_of_task 1 (codes "ANNUAL") 59000 780 19509 ∷ base_of_task 2 (codes "OVH") 1090 101 19784 ∷ []
opening_sets = refl

-- a release certifies tasks of the items in its lines, an opening that of its own item
tasks_said : map (λ item. tasks_by item work_on_abcd) three ≡ (codes "100H" ∷ codes "ANNUAL" ∷ []) ∷ [] ∷ (codes "OVH" ∷ []) ∷ []
tasks_said = refl

task_stated : map (λ item. tasks_by item opening) three ≡ (codes "ANNUAL" ∷ []) ∷ [] ∷ [] ∷ []
task_stated = refl

-- a task that was done twice is named once
tasks_of_e1 : tasks_accomplished (overhauled ++ logged (codes "WO3") overhaul_of_e1 ∷ []) (Component e1) ≡ codes "OVH" ∷ []
tasks_of_e1 = refl

texts_once : each_once (codes "A" ∷ codes "B" ∷ codes "A" ∷ []) ≡ codes "A" ∷ codes "B" ∷ []
texts_once = refl

keys_found : map (is_keyed 2 (codes "OVH")) (base_of_task 2 (codes "OVH") 1 1 1 ∷ base_of_task 2 (codes "100H") 1 1 1 ∷ base_of_task 1 (codes "OVH") 1 1 1 ∷ []) ≡ true ∷ false ∷ false ∷ []
keys_found = refl
