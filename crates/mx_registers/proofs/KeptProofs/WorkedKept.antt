-- Worked kept rows: the spans, totals and last bases of a book, counted by hand, and which a command touches.
use Rattle.std.proofs.Common.{refl, ◌≡◌, ℕ, List, [], ◌∷◌, ◌++◌, true, Some, None}
use Rattle.std.specs.Prelude.{codes, map}
use Rattle.mx_book.specs.commands.Act.{Act, Entry, Removed, Released}
use Rattle.mx_book.specs.declared.commands.item.Item.{Item}
use Rattle.mx_book.specs.declared.commands.item.Item.TheVariants.{Airframe, Component}
use Rattle.mx_book.specs.declared.commands.release.Line.TheVariants.{Done}
use Rattle.mx_book.specs.declared.commands.release.Place.TheVariants.{Aircraft, Shop}
use Rattle.mx_book.specs.declared.commands.sector.Sector.{Sector}
use Rattle.mx_book.specs.Book.{is_book}
use Rattle.mx_book.proofs.Worked.{at, used, abcd, logged}
use Rattle.mx_book.proofs.WorkedFittings.{engine, e1, e2, replaced}
use Rattle.mx_book.proofs.WorkedProgrammes.{c172, first_programme}
use Rattle.mx_base.specs.declared.rows.rows.BaseRow.{BaseRow}
use Rattle.mx_base.specs.declared.rows.rows.SpanRow.{SpanRow}
use Rattle.mx_base.specs.declared.rows.rows.TotalRow.{TotalRow}
use Rattle.mx_base.specs.rows.Rows.{base_row_with}
use Rattle.mx_registers.specs.kept.Bases.{base_in, base_rows, bases_by, bases_put}
use Rattle.mx_registers.specs.kept.Changes.{clock_of_place}
use Rattle.mx_registers.specs.kept.Items.{items}
use Rattle.mx_registers.specs.kept.Spans.{fitting_in, open_span_in, removal_in, span_rows}
use Rattle.mx_registers.specs.kept.Totals.{numbers_fitted, numbers_flown, numbers_touched, total_in, total_rows}

-- D-ABCD is entry 1, the engines E1 and E2 are entries 2 and 3; E1 is fitted by entry 4 and removed by entry 6, after a sector; E2 is fitted by entry 7, and the programme is entry 8
abbrev pub in_service : List Entry
in_service = replaced ++ first_programme ∷ []

-- E1 is overhauled in a shop, on 2024-03-02 at midnight
abbrev pub overhaul_of_e1 : Act
overhaul_of_e1 = Released (record { place = Shop e1 c172; moment = at 19784 0 0 }) (Done (Component e1) (codes "OVH") ∷ [])

-- at D-ABCD, that day at noon, both inspections of the airframe are done, and the overhaul of E2
abbrev pub work_on_abcd : Act
work_on_abcd = Released (record { place = Aircraft abcd; moment = at 19784 12 0 }) (Done (Airframe abcd) (codes "100H") ∷ Done (Airframe abcd) (codes "ANNUAL") ∷ Done (Component e2) (codes "OVH") ∷ [])

abbrev pub overhauled : List Entry
overhauled = in_service ++ logged (codes "WO1") overhaul_of_e1 ∷ []

abbrev maintained : List Entry
maintained = overhauled ++ logged (codes "WO2") work_on_abcd ∷ []

accepted : is_book maintained ≡ true
accepted = refl

abbrev items_there : List (ℕ × Item)
items_there = (1, Airframe abcd) ∷ (2, Component e1) ∷ (3, Component e2) ∷ []

item_numbers : items maintained ≡ items_there
item_numbers = refl

-- ── spans ──

-- E1 from 2024-02-01 up to the landing on 2024-03-01
abbrev pub span_of_e1 : SpanRow
span_of_e1 = record { fit_seq = 4; component = 2; aircraft = 1; position = engine; from = at 19754 0 0; remove_seq = Some 6; to = Some (at 19783 9 30) }

-- E2 from then on
abbrev pub span_of_e2 : SpanRow
span_of_e2 = record { fit_seq = 7; component = 3; aircraft = 1; position = engine; from = at 19783 9 30; remove_seq = None; to = None }

spans_kept : span_rows maintained ≡ span_of_e1 ∷ span_of_e2 ∷ []
spans_kept = refl

-- E2 is fitted, and E1 nowhere
open_spans : map (open_span_in (span_rows maintained)) (2 ∷ 3 ∷ []) ≡ None ∷ Some span_of_e2 ∷ []
open_spans = refl

fitting_kept : fitting_in span_of_e1 ≡ record { seq = 4; component = 2; aircraft = 1; position = engine; moment = at 19754 0 0 }
fitting_kept = refl

removals_kept : map removal_in (span_of_e1 ∷ span_of_e2 ∷ []) ≡ Some (record { seq = 6; component = 2; moment = at 19783 9 30 }) ∷ None ∷ []
removals_kept = refl

-- ── totals ──

abbrev pub total : ℕ → ℕ → ℕ → ℕ → TotalRow
total item minutes cycles clock = record { item = item; life = used minutes cycles; clock = clock }

-- E1 flew the sector of 90 minutes and E2 did not; each clock is at the landing, the removal or the fitting
totals_in_service : total_rows in_service ≡ total 1 60090 801 (at 19783 9 30) ∷ total 2 1090 101 (at 19783 9 30) ∷ total 3 1000 100 (at 19783 9 30) ∷ []
totals_in_service = refl

-- work in a shop moves the clock of its component, and work at an aircraft that of the airframe; both leave the lives
totals_maintained : total_rows maintained ≡ total 1 60090 801 (at 19784 12 0) ∷ total 2 1090 101 (at 19784 0 0) ∷ total 3 1000 100 (at 19783 9 30) ∷ []
totals_maintained = refl

-- entry 3 added E2, and entry 4 no item
totals_found : map (total_in (total_rows maintained)) (3 ∷ 4 ∷ []) ≡ Some (total 3 1000 100 (at 19783 9 30)) ∷ None ∷ []
totals_found = refl

-- ── last bases ──

abbrev pub base_of_task : ℕ → List ℕ → ℕ → ℕ → ℕ → BaseRow
base_of_task item task minutes cycles day = base_row_with item task (record { minutes = minutes; cycles = cycles; day = day })

no_bases : base_rows in_service ≡ []
no_bases = refl

-- E1 had 1,090 minutes and 101 cycles, and the overhaul was not due before 120,000 minutes
base_of_e1 : base_rows overhauled ≡ base_of_task 2 (codes "OVH") 1090 101 19784 ∷ []
base_of_e1 = refl

-- the yearly inspection was due a year after 2000-01-01, so its base has that day
bases_maintained : base_rows maintained ≡ base_of_task 1 (codes "100H") 60090 801 19784 ∷ base_of_task 1 (codes "ANNUAL") 60090 801 11322 ∷ base_of_task 2 (codes "OVH") 1090 101 19784 ∷ base_of_task 3 (codes "OVH") 1000 100 19784 ∷ []
bases_maintained = refl

-- the overhaul of E1 has a base, and that of the airframe has none
bases_found : map (λ number. base_in (base_rows maintained) number (codes "OVH")) (1 ∷ 2 ∷ []) ≡ None ∷ Some (record { minutes = 1090; cycles = 101; day = 19784 }) ∷ []
bases_found = refl

-- a second overhaul of E1 comes in place of the first
put_again : bases_put (base_of_task 2 (codes "OVH") 2000 150 19800 ∷ []) (base_of_task 1 (codes "OVH") 7 7 7 ∷ base_of_task 2 (codes "OVH") 1090 101 19784 ∷ base_of_task 2 (codes "SB7") 1 1 1 ∷ [])
    ≡ base_of_task 2 (codes "OVH") 2000 150 19800 ∷ base_of_task 1 (codes "OVH") 7 7 7 ∷ base_of_task 2 (codes "SB7") 1 1 1 ∷ []
put_again = refl

-- what the work at D-ABCD sets, in the order of its lines
bases_set : bases_by overhauled work_on_abcd ≡ base_of_task 1 (codes "100H") 60090 801 19784 ∷ base_of_task 1 (codes "ANNUAL") 60090 801 11322 ∷ base_of_task 3 (codes "OVH") 1000 100 19784 ∷ []
bases_set = refl

-- ── what a command touches ──

-- a sector of D-ABCD
abbrev pub flown : ℕ → ℕ → Sector
flown off on = record { tail = abcd; page = 12; line = 2; off = off; on = on; cycles = 1 }

-- of a sector after E2 was fitted, the aircraft and E2; of one before that is entered late, the aircraft and E1; of one across the change, the aircraft alone
numbers_credited : map (numbers_flown in_service) (flown (at 19784 8 0) (at 19784 9 0) ∷ flown (at 19783 6 0) (at 19783 7 0) ∷ flown (at 19783 9 0) (at 19783 10 0) ∷ []) ≡ (1 ∷ 3 ∷ []) ∷ (1 ∷ 2 ∷ []) ∷ (1 ∷ []) ∷ []
numbers_credited = refl

numbers_there_now : numbers_fitted in_service (flown (at 19783 6 0) (at 19783 7 0)) ≡ 1 ∷ 3 ∷ []
numbers_there_now = refl

-- the removal of E2 touches it and the aircraft that it is fitted to, a release the place alone
numbers_of_others : map (numbers_touched in_service) (Removed (record { serial = e2; moment = at 19784 0 0 }) ∷ overhaul_of_e1 ∷ work_on_abcd ∷ []) ≡ (3 ∷ 1 ∷ []) ∷ (2 ∷ []) ∷ (1 ∷ []) ∷ []
numbers_of_others = refl

-- the clock of the place of E2 is that of D-ABCD, and E1 is fitted nowhere
clocks_of_places : map (clock_of_place maintained) (Airframe abcd ∷ Component e1 ∷ Component e2 ∷ []) ≡ at 19784 12 0 ∷ at 19784 0 0 ∷ at 19784 12 0 ∷ []
clocks_of_places = refl
