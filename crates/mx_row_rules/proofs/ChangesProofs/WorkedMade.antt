-- Worked rows: what one command makes of what was found for it, and which rows of a book it touches, counted by hand.
use Rattle.std.proofs.Common.{refl, ◌≡◌, List, [], ◌∷◌, map, true, false, Some, None}
use Rattle.std.specs.Prelude.{codes}
use Rattle.mx_base.specs.declared.category.Category.TheVariants.{C}
use Rattle.mx_base.specs.declared.rows.rows.ReleaseLineRow.{ReleaseLineRow}
use Rattle.mx_base.specs.declared.rows.rows.SpanRow.{SpanRow}
use Rattle.mx_base.specs.declared.rows.rows.TotalRow.{TotalRow}
use Rattle.mx_book.specs.commands.Act.{Act, Flown}
use Rattle.mx_book.specs.declared.commands.item.Item.TheVariants.{Airframe}
use Rattle.mx_book.specs.declared.commands.sector.Sector.{Sector}
use Rattle.mx_book.proofs.Worked.{abcd, aircraft_with, at, used}
use Rattle.mx_book.proofs.WorkedDefects.{defer, extend, x1}
use Rattle.mx_book.proofs.WorkedFittings.{e1, e2, engine, engine_with, fit, propeller, remove}
use Rattle.mx_book.proofs.WorkedProgrammes.{c172, minutes_alone, open_task}
use Rattle.mx_registers.proofs.KeptProofs.WorkedKept.{base_of_task, flown, in_service, span_of_e1, span_of_e2, total, overhaul_of_e1}
use Rattle.mx_row_rules.specs.changes.Certified.{base_made, line_made}
use Rattle.mx_row_rules.specs.changes.Kept.{span_fitted, span_removed, total_begun, total_clocked, total_credited, total_flown}
use Rattle.mx_row_rules.specs.changes.Made.{Findings, bases_made, lines_made, nothing_found, spans_ended, totals_begun, totals_moved}
use Rattle.mx_row_rules.specs.changes.Puts.{has_number_of, rows_put, spans_put, totals_put}
use Rattle.mx_row_rules.specs.changes.Rows.{held, sectors_held_by, spans_open_of, spans_touched, totals_before, totals_touched}
use Rattle.mx_row_rules.specs.declared.changes.releases.Certified.{Certified}
use Rattle.mx_row_rules.specs.declared.changes.releases.Certified.TheVariants.{Done, Rectified}

-- ── lines of a release ──

-- the inspection every 100 hours, done at 63,400 minutes and 850 cycles though due at 63,000; an overhaul that was not due; the defect of entry 4
abbrev late : Certified
late = Done 1 (codes "100H") (used 63400 850) (Some (minutes_alone 63000))

abbrev undue : Certified
undue = Done 2 (codes "OVH") (used 1090 101) None

abbrev lines : List Certified
lines = late ∷ undue ∷ Rectified 4 ∷ []

-- on the lines of entry 9, each of an item and a task or of a defect
abbrev line_rows : List ReleaseLineRow
line_rows = record { seq = 9; line = 1; item = Some 1; task = Some (codes "100H"); defect = None } ∷ record { seq = 9; line = 2; item = Some 2; task = Some (codes "OVH"); defect = None }
    ∷ record { seq = 9; line = 3; item = None; task = None; defect = Some 4 } ∷ []

one_line : map (line_made 9 3) lines ≡ map (λ (row : ReleaseLineRow). record row { line = 3 }) line_rows
one_line = refl

-- on 2024-03-01, day 19,783: late work counts from where it was due, and a defect sets no base
one_base : map (base_made 19783) lines ≡ Some (base_of_task 1 (codes "100H") 63000 850 19783) ∷ Some (base_of_task 2 (codes "OVH") 1090 101 19783) ∷ None ∷ []
one_base = refl

-- ── kept rows ──

begun : total_begun 4 (used 1000 100) (at 19723 0 0) ≡ total 4 1000 100 (at 19723 0 0)
begun = refl

-- a clock is raised to a later moment, and stays at an earlier one
clocked : map (total_clocked 7) (total 1 10 1 5 ∷ total 1 10 1 9 ∷ []) ≡ total 1 10 1 7 ∷ total 1 10 1 9 ∷ []
clocked = refl

-- an hour on 2024-03-02, one cycle
abbrev sector : Sector
sector = flown (at 19784 8 0) (at 19784 9 0)

credited : total_credited sector (total 3 1000 100 5) ≡ total 3 1060 101 5
credited = refl

-- the clock of the aircraft alone is raised to the landing
flown_totals : map (total_flown 1 sector) (total 1 60090 801 5 ∷ total 3 1000 100 5 ∷ []) ≡ total 1 60150 802 (at 19784 9 0) ∷ total 3 1060 101 5 ∷ []
flown_totals = refl

-- E1, entry 2, is fitted by entry 9 to D-ABCD, entry 1
abbrev span_of_entry_9 : SpanRow
span_of_entry_9 = record { fit_seq = 9; component = 2; aircraft = 1; position = propeller; from = at 19787 12 0; remove_seq = None; to = None }

fitted : span_fitted 9 2 1 (record { serial = e1; tail = abcd; position = propeller; moment = at 19787 12 0 }) ≡ span_of_entry_9
fitted = refl

-- E2 is removed by entry 9, on 2024-03-05 at 10:00
abbrev ended_span : SpanRow
ended_span = record { fit_seq = 7; component = 3; aircraft = 1; position = engine; from = at 19783 9 30; remove_seq = Some 9; to = Some (at 19787 10 0) }

removed : span_removed 9 (at 19787 10 0) span_of_e2 ≡ ended_span
removed = refl

-- ── what a command makes of what was found ──

nothing : (nothing_found.number ∷ nothing_found.component ∷ [] ≡ 0 ∷ 0 ∷ []) × (nothing_found.spans ≡ []) × (nothing_found.totals ≡ []) × (nothing_found.lines ≡ [])
nothing = (refl, refl, refl, refl)

abbrev two_totals : List TotalRow
two_totals = total 1 60090 801 5 ∷ total 3 1000 100 9 ∷ []

abbrev found : Findings
found = record { number = 1; component = 3; spans = span_of_e2 ∷ []; totals = two_totals; lines = lines }

abbrev removal_of_e2 : Act
removal_of_e2 = remove e2 (at 19787 10 0)

-- a release has lines, and no other command
lines_of_release : map (λ act. lines_made act 9 found) (overhaul_of_e1 ∷ removal_of_e2 ∷ []) ≡ line_rows ∷ [] ∷ []
lines_of_release = refl

-- an aircraft and a component begin with what they bring, up to 2024-01-01
first_totals : map (λ act. totals_begun act 4) (aircraft_with abcd ∷ engine_with e1 ∷ removal_of_e2 ∷ []) ≡ (total 4 60000 800 (at 19723 0 0) ∷ []) ∷ (total 4 1000 100 (at 19723 0 0) ∷ []) ∷ [] ∷ []
first_totals = refl

-- a removal ends the spans that were found
ended : map (λ act. spans_ended act 9 found) (removal_of_e2 ∷ overhaul_of_e1 ∷ []) ≡ (ended_span ∷ []) ∷ [] ∷ []
ended = refl

moved_by_sector : totals_moved (Flown sector) found ≡ total 1 60150 802 (at 19784 9 0) ∷ total 3 1060 101 9 ∷ []
moved_by_sector = refl

-- a fitting, a removal, a release and a deferral raise the clocks to their moments
moved_by_four : map (λ act. totals_moved act found) (fit e2 abcd engine (at 19783 9 30) ∷ removal_of_e2 ∷ overhaul_of_e1 ∷ defer abcd (at 19784 12 0) C ∷ [])
    ≡ (total 1 60090 801 (at 19783 9 30) ∷ total 3 1000 100 (at 19783 9 30) ∷ []) ∷ (total 1 60090 801 (at 19787 10 0) ∷ total 3 1000 100 (at 19787 10 0) ∷ [])
    ∷ (total 1 60090 801 (at 19784 0 0) ∷ total 3 1000 100 (at 19784 0 0) ∷ []) ∷ (total 1 60090 801 (at 19784 12 0) ∷ total 3 1000 100 (at 19784 12 0) ∷ []) ∷ []
moved_by_four = refl

moved_by_others : map (λ act. totals_moved act found) (extend x1 19750 3 ∷ engine_with e1 ∷ []) ≡ [] ∷ [] ∷ []
moved_by_others = refl

-- an opening states its base, and a release that of each task on its day, 19,784
bases_of_commands : map (λ act. bases_made act found) (open_task (Airframe abcd) c172 (codes "ANNUAL") 59000 780 19509 ∷ overhaul_of_e1 ∷ removal_of_e2 ∷ [])
    ≡ (base_of_task 1 (codes "ANNUAL") 59000 780 19509 ∷ []) ∷ (base_of_task 1 (codes "100H") 63000 850 19784 ∷ base_of_task 2 (codes "OVH") 1090 101 19784 ∷ []) ∷ [] ∷ []
bases_of_commands = refl

-- ── in place of others ──

same_number : map (has_number_of (λ (row : TotalRow). row.item) (total 3 7 7 7)) two_totals ≡ false ∷ true ∷ []
same_number = refl

-- those of items 3 and 4, one after another: the last of them is the first
totals_in_place : totals_put (total 3 7 7 7 ∷ total 4 8 8 8 ∷ []) two_totals ≡ total 4 8 8 8 ∷ total 3 7 7 7 ∷ total 1 60090 801 5 ∷ []
totals_in_place = refl

put_by_a_test : rows_put (has_number_of (λ (row : TotalRow). row.item)) (total 1 7 7 7 ∷ []) two_totals ≡ total 1 7 7 7 ∷ total 3 1000 100 9 ∷ []
put_by_a_test = refl

-- a span is known by the entry that began it: entry 4 began another of the same component
abbrev before_span : SpanRow
before_span = record span_of_e1 { component = 3 }

spans_in_place : spans_put (ended_span ∷ []) (before_span ∷ span_of_e2 ∷ []) ≡ ended_span ∷ before_span ∷ []
spans_in_place = refl

-- ── of a book ──

-- the sector of D-ABCD on line 2 of page 12 would be entry 9
sectors_of : map (sectors_held_by in_service) (Flown sector ∷ removal_of_e2 ∷ [])
    ≡ (record { sector = record { seq = 9; aircraft = 1; page = 12; line = 2; took_off = at 19784 8 0; landed = at 19784 9 0; cycles = 1 } } ∷ []) ∷ [] ∷ []
sectors_of = refl

held_sector : (held (record { seq = 9; aircraft = 1; page = 12; line = 2; took_off = 1; landed = 2; cycles = 1 })).sector ≡ record { seq = 9; aircraft = 1; page = 12; line = 2; took_off = 1; landed = 2; cycles = 1 }
held_sector = refl

-- a removal of E2 touches its span, and a second one of E1 none
open_spans : map (spans_open_of in_service) (removal_of_e2 ∷ remove e1 (at 19787 10 0) ∷ []) ≡ (span_of_e2 ∷ []) ∷ [] ∷ []
open_spans = refl

spans_behind : map (spans_touched in_service) (removal_of_e2 ∷ remove e1 (at 19787 10 0) ∷ []) ≡ (ended_span ∷ []) ∷ [] ∷ []
spans_behind = refl

-- the sector goes to D-ABCD and to E2, and moves the clock of the one
totals_there : totals_before in_service (Flown sector) ≡ total 1 60090 801 (at 19783 9 30) ∷ total 3 1000 100 (at 19783 9 30) ∷ []
totals_there = refl

totals_behind : totals_touched in_service (Flown sector) ≡ total 1 60150 802 (at 19784 9 0) ∷ total 3 1060 101 (at 19783 9 30) ∷ []
totals_behind = refl
