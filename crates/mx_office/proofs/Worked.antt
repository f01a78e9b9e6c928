-- Worked examples: the rows that the tables of the worked book have, and what opening answers over a point.
use Rattle.std.proofs.Common.{refl, ◌≡◌, ℕ, pos, [], ◌∷◌, Some, None, Ok, Err, map}
use Rattle.std.specs.Prelude.{codes}
use Rattle.sqlite.specs.declared.types.Value.{Value}
use Rattle.sqlite.specs.declared.types.Value.TheVariants.{Int, Null, Text}
use Rattle.mx_book.specs.declared.commands.item.Item.TheVariants as item
use Rattle.mx_book.specs.declared.verdict.Refusal.TheVariants.{UnknownAircraft, UnknownComponent}
use Rattle.mx_book.proofs.WorkedFittings.{replaced}
use Rattle.mx_layout.specs.declared.fault.Table.TheVariants.{Office, Entry, Aircraft, Place, Component, Programme, Sector2, Span2, Total2, Base2}
use Rattle.mx_layout.specs.declared.fault.TableFault.TheVariants as table
use Rattle.mx_faults.specs.declared.fault.Ask.TheVariants.{Refused, Failed}
use Rattle.mx_faults.specs.declared.fault.Fault.TheVariants as fault
use Rattle.mx_faults.specs.declared.fault.OpenFault.TheVariants as unopened
use Rattle.mx_row_questions.specs.lists.Listing.{unknown}
use Rattle.mx_office.specs.Faults.{call_answer, fault_from, found_or, open_answer, open_fault_from, question_answer}
use Rattle.mx_book_tables.specs.stands.Family.{rows_given}
use Rattle.mx_office.specs.Layout.{office_point}

number : ℕ → Value
number n = Int (pos n)

-- ── D-ABCD with two engines, one of them replaced after a sector ──

at_the_second_point : rows_given office_point replaced Office ≡ (number 1 ∷ number 2 ∷ number 0 ∷ number 0 ∷ []) ∷ []
unfolding number
at_the_second_point = refl

seven_entries : rows_given office_point replaced Entry
    ≡ (number 1 ∷ Text (codes "A1") ∷ number 1 ∷ []) ∷ (number 2 ∷ Text (codes "C1") ∷ number 2 ∷ []) ∷ (number 3 ∷ Text (codes "C2") ∷ number 2 ∷ []) ∷ (number 4 ∷ Text (codes "F1") ∷ number 6 ∷ [])
    ∷ (number 5 ∷ Text (codes "TL/D-ABCD/12/1") ∷ number 5 ∷ []) ∷ (number 6 ∷ Text (codes "R1") ∷ number 7 ∷ []) ∷ (number 7 ∷ Text (codes "F2") ∷ number 6 ∷ []) ∷ []
unfolding number
seven_entries = refl

one_aircraft : rows_given office_point replaced Aircraft ≡ (number 1 ∷ Text (codes "D-ABCD") ∷ Text (codes "C172") ∷ number 10957 ∷ number 60000 ∷ number 800 ∷ number 28401120 ∷ []) ∷ []
unfolding number
one_aircraft = refl

two_positions : rows_given office_point replaced Place ≡ (number 1 ∷ number 1 ∷ Text (codes "ENG") ∷ Text (codes "IO360") ∷ []) ∷ (number 1 ∷ number 2 ∷ Text (codes "PROP") ∷ Text (codes "HC2") ∷ []) ∷ []
unfolding number
two_positions = refl

two_engines : rows_given office_point replaced Component
    ≡ (number 2 ∷ Text (codes "E1") ∷ Text (codes "IO360") ∷ number 14610 ∷ number 1000 ∷ number 100 ∷ number 28401120 ∷ [])
    ∷ (number 3 ∷ Text (codes "E2") ∷ Text (codes "IO360") ∷ number 14610 ∷ number 1000 ∷ number 100 ∷ number 28401120 ∷ []) ∷ []
unfolding number
two_engines = refl

-- from 2024-03-01T08:00 to 09:30
one_sector : rows_given office_point replaced Sector2 ≡ (number 5 ∷ number 1 ∷ number 12 ∷ number 1 ∷ number 28488000 ∷ number 28488090 ∷ number 1 ∷ []) ∷ []
unfolding number
one_sector = refl

-- E1 from 2024-02-01T00:00 to that landing, and E2 from then on
two_spans : rows_given office_point replaced Span2
    ≡ (number 4 ∷ number 2 ∷ number 1 ∷ Text (codes "ENG") ∷ number 28445760 ∷ number 6 ∷ number 28488090 ∷ []) ∷ (number 7 ∷ number 3 ∷ number 1 ∷ Text (codes "ENG") ∷ number 28488090 ∷ Null ∷ Null ∷ []) ∷ []
unfolding number
two_spans = refl

-- D-ABCD and E1 with the 90 minutes of the sector, E2 as it was opened
three_totals : rows_given office_point replaced Total2
    ≡ (number 1 ∷ number 60090 ∷ number 801 ∷ number 28488090 ∷ []) ∷ (number 2 ∷ number 1090 ∷ number 101 ∷ number 28488090 ∷ []) ∷ (number 3 ∷ number 1000 ∷ number 100 ∷ number 28488090 ∷ []) ∷ []
unfolding number
three_totals = refl

no_base : rows_given office_point replaced Base2 ≡ []
no_base = refl

no_programme : rows_given office_point replaced Programme ≡ []
no_programme = refl

-- ── what opening answers ──

opens_at_the_second_point : open_answer (record { layout = 2; step = 0; mark = 0 }) ≡ None
opens_at_the_second_point = refl

newer : open_answer (record { layout = 9; step = 7; mark = 3 }) ≡ Some (unopened.NewerLayout 9)
newer = refl

next_layout : open_answer (record { layout = 3; step = 0; mark = 0 }) ≡ Some (unopened.NewerLayout 3)
next_layout = refl

older : open_answer (record { layout = 1; step = 0; mark = 0 }) ≡ None
older = refl

on_the_way : open_answer (record { layout = 1; step = 1; mark = 67 }) ≡ None
on_the_way = refl

no_step : open_answer (record { layout = 1; step = 7; mark = 0 }) ≡ Some (unopened.Damaged Office)
no_step = refl

past_the_last_entry : open_answer (record { layout = 1; step = 1; mark = 1000001 }) ≡ Some (unopened.Damaged Office)
past_the_last_entry = refl

behind_the_newest : open_answer (record { layout = 2; step = 1; mark = 0 }) ≡ Some (unopened.Damaged Office)
behind_the_newest = refl

no_layout : open_answer (record { layout = 0; step = 0; mark = 0 }) ≡ Some (unopened.Damaged Office)
no_layout = refl

a_mark_at_no_step : open_answer (record { layout = 1; step = 0; mark = 1 }) ≡ Some (unopened.Damaged Office)
a_mark_at_no_step = refl

unknown_tail : unknown (item.Airframe (codes "D-NONE")) ≡ UnknownAircraft
unknown_tail = refl

unknown_serial : unknown (item.Component (codes "E9")) ≡ UnknownComponent
unknown_serial = refl

-- ── what a fault of the tables is to the office ──

faults : map fault_from (table.Memory ∷ table.Store ∷ table.NotOurs ∷ table.Exists ∷ table.Damaged Place ∷ [])
    ≡ fault.Memory ∷ fault.Store ∷ fault.Store ∷ fault.Store ∷ fault.Damaged Place ∷ []
faults = refl

faults_of_opening : map open_fault_from (table.Memory ∷ table.Store ∷ table.NotOurs ∷ table.Exists ∷ table.Damaged Office ∷ [])
    ≡ unopened.Memory ∷ unopened.Store ∷ unopened.NotOurs ∷ unopened.Store ∷ unopened.Damaged Office ∷ []
faults_of_opening = refl

-- ── what is answered to a question ──

found : found_or {X = ℕ} UnknownAircraft (Some 1) ≡ Ok 1
found = refl

none_found : found_or {X = ℕ} UnknownAircraft None ≡ Err (Refused UnknownAircraft)
none_found = refl

called : map (call_answer {X = ℕ}) (Ok 7 ∷ Err (table.Damaged Place) ∷ []) ≡ Ok 7 ∷ Err (fault.Damaged Place) ∷ []
called = refl

asked : map (question_answer {X = ℕ}) (Ok (Ok 7) ∷ Ok (Err UnknownAircraft) ∷ Err table.Memory ∷ []) ≡ Ok 7 ∷ Err (Refused UnknownAircraft) ∷ Err (Failed fault.Memory) ∷ []
asked = refl
