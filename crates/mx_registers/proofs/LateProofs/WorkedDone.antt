-- Worked accomplishments and cycles at which defects were found, as rows, counted by hand.
use Rattle.std.proofs.Common.{refl, ◌≡◌, ℕ, List, [], ◌∷◌, ◌++◌, true, false, Some, None}
use Rattle.std.specs.Prelude.{codes, map}
use Rattle.mx_base.specs.declared.amounts.Base.{Base}
use Rattle.mx_base.specs.declared.amounts.Limit.{Limit}
use Rattle.mx_base.specs.declared.category.Category.TheVariants.{C}
use Rattle.mx_base.specs.declared.rows.rows.DoneRow.{DoneRow}
use Rattle.mx_base.specs.declared.rows.rows.Deferral3Row.{Deferral3Row}
use Rattle.mx_book.specs.commands.Act.{Act, Entry, Added, Listed, Deferred, Flown, Released}
use Rattle.mx_book.specs.declared.commands.item.Item.TheVariants.{Airframe}
use Rattle.mx_book.specs.declared.commands.release.Line.TheVariants.{Done, Rectified}
use Rattle.mx_book.specs.declared.commands.release.Place.TheVariants.{Aircraft}
use Rattle.mx_book.specs.declared.commands.sector.Sector.{Sector}
use Rattle.mx_book.specs.Book.{is_book}
use Rattle.mx_book.proofs.Worked.{at, used, logged}
use Rattle.mx_book.proofs.WorkedFittings.{engine, fit, remove}
use Rattle.mx_book.proofs.WorkedProgrammes.{c172, days_alone, first_four, hundred_hours, load, minutes_alone, open_task}
use Rattle.mx_registers.specs.kept.Totals.{numbers_flown}
use Rattle.mx_registers.specs.Registers.{no_limit}
use Rattle.mx_book.specs.due.Moved.{moved}
use Rattle.mx_registers.specs.late.Done.{credited_late, done_become, done_by, done_rows, done_rows_of, is_done_at, last_base, rebased, valued}
use Rattle.mx_registers.specs.late.Found.{found_become, found_rows, is_found_touched}
use Rattle.mx_registers.proofs.KeptProofs.WorkedKept.{overhauled, work_on_abcd}

abbrev late : List ℕ
late = codes "D-LATE"

abbrev e3 : List ℕ
e3 = codes "E3"

abbrev inspect : ℕ → Act
inspect hour = Released (record { place = Aircraft late; moment = at 19786 hour 0 }) (Done (Airframe late) (codes "100H") ∷ [])

-- behind four entries D-LATE was added, and E3, which was fitted to it on 2024-02-01 and removed on 2024-03-04T12:00, when the airframe was inspected
abbrev inspected : List Entry
inspected = first_four
    ++ logged (codes "A3") (Added (record { tail = late; kind = c172; birth = 10957; opening = used 62900 900; as_of = at 19723 0 0 }) ((engine, codes "IO360") ∷ []))
    ∷ logged (codes "C3") (Listed (record { serial = e3; part = codes "IO360"; birth = 14610; opening = used 1000 100; as_of = at 19723 0 0 }))
    ∷ logged (codes "F3") (fit e3 late engine (at 19754 0 0))
    ∷ logged (codes "R3") (remove e3 (at 19786 12 0))
    ∷ logged (codes "W3") (inspect 12) ∷ []

accepted : is_book inspected ≡ true
accepted = refl

abbrev flight : ℕ → ℕ → ℕ → Sector
flight line off on = record { tail = late; page = 1; line = line; off = off; on = on; cycles = 1 }

-- ── the rows of a book ──

abbrev value : ℕ → ℕ → Base
value minutes cycles = record { minutes = minutes; cycles = cycles; day = 19786 }

-- the row of the inspection, first due at 63,000 minutes
abbrev inspection : ℕ → ℕ → ℕ → DoneRow
inspection minutes cycles base = record { item = 5; task = codes "100H"; seq = 9; line = 1; value = value minutes cycles; due = minutes_alone 63000; base = value base cycles }

-- the yearly inspection of D-ABCD, which an opening states
abbrev stated : DoneRow
stated = record { item = 1; task = codes "ANNUAL"; seq = 3; line = 0; value = record { minutes = 59000; cycles = 780; day = 19509 }; due = no_limit; base = record { minutes = 59000; cycles = 780; day = 19509 } }

rows_kept : done_rows inspected ≡ stated ∷ inspection 62900 900 62900 ∷ []
rows_kept = refl

-- a sector flown behind the inspection leaves what had been reached then, and a later programme when it was due
flown_behind : done_rows (inspected ++ logged (codes "TL/D-LATE/1/9") (Flown (flight 9 (at 19786 14 0) (at 19786 15 0))) ∷ []) ≡ stated ∷ inspection 62900 900 62900 ∷ []
flown_behind = refl

loaded_behind : done_rows (inspected ++ logged (codes "P2") (load c172 2 (record hundred_hours { first = minutes_alone 50000; repeat = Some (minutes_alone 3000) } ∷ [])) ∷ []) ≡ stated ∷ inspection 62900 900 62900 ∷ []
loaded_behind = refl

last_kept : map (λ (id : List ℕ). last_base (done_rows_of inspected 5 (Airframe late) id)) (codes "100H" ∷ codes "ANNUAL" ∷ []) ≡ Some (value 62900 900) ∷ None ∷ []
last_kept = refl

-- of a row of late work the base counts, and not the value
last_of_late : last_base (inspection 62900 900 62900 ∷ inspection 63020 902 63000 ∷ []) ≡ Some (value 63000 902)
last_of_late = refl

-- each line of a release on its own
lines_kept : map (λ (row : DoneRow). row.line) (done_rows (overhauled ++ logged (codes "WO2") work_on_abcd ∷ [])) ≡ 1 ∷ 2 ∷ 1 ∷ 3 ∷ []
lines_kept = refl

-- which row stands where
places : map (is_done_at 5 (codes "100H") 9 1) (inspection 62900 900 62900 ∷ record (inspection 62900 900 62900) { item = 1 } ∷ record (inspection 62900 900 62900) { task = codes "100" } ∷ record (inspection 62900 900 62900) { seq = 10 } ∷ record (inspection 62900 900 62900) { line = 0 } ∷ [])
    ≡ true ∷ false ∷ false ∷ false ∷ false ∷ []
places = refl

-- ── what a command adds ──

-- a second inspection is due 6,000 minutes behind the base of the first
inspected_again : done_become inspected (logged (codes "W4") (inspect 13)) (stated ∷ [])
    ≡ stated ∷ record { item = 5; task = codes "100H"; seq = 10; line = 1; value = value 62900 900; due = minutes_alone 68900; base = value 62900 900 } ∷ []
inspected_again = refl

-- what an opening adds stands on no line, and a defect that is rectified takes a line and adds none
opening_added : done_by inspected (open_task (Airframe late) c172 (codes "ANNUAL") 61000 850 19600) ≡ record { item = 5; task = codes "ANNUAL"; seq = 10; line = 0; value = record { minutes = 61000; cycles = 850; day = 19600 }; due = no_limit; base = record { minutes = 61000; cycles = 850; day = 19600 } } ∷ []
opening_added = refl

behind_a_defect : map (λ (row : DoneRow). row.line) (done_by inspected (Released (record { place = Aircraft late; moment = at 19786 13 0 }) (Rectified (codes "X1") ∷ Done (Airframe late) (codes "100H") ∷ []))) ≡ 2 ∷ []
behind_a_defect = refl

-- three tasks in one release: the second was due on 2000-12-31
abbrev on_that_day : ℕ → ℕ → Base
on_that_day minutes cycles = record { minutes = minutes; cycles = cycles; day = 19784 }

work_added : done_by overhauled work_on_abcd
    ≡ record { item = 1; task = codes "100H"; seq = 10; line = 1; value = on_that_day 60090 801; due = minutes_alone 63000; base = on_that_day 60090 801 }
    ∷ record { item = 1; task = codes "ANNUAL"; seq = 10; line = 2; value = on_that_day 60090 801; due = days_alone 11322; base = record { minutes = 60090; cycles = 801; day = 11322 } }
    ∷ record { item = 3; task = codes "OVH"; seq = 10; line = 3; value = on_that_day 1000 100; due = minutes_alone 120000; base = on_that_day 1000 100 } ∷ []
work_added = refl

-- ── a sector that is entered late ──

-- two of an hour, flown on the two days before the inspection
abbrev first : Sector
first = flight 1 (at 19784 8 0) (at 19784 9 0)

abbrev second : Sector
second = flight 2 (at 19785 8 0) (at 19785 9 0)

abbrev with_one : List Entry
with_one = inspected ++ logged (codes "TL/D-LATE/1/1") (Flown first) ∷ []

abbrev with_two : List Entry
with_two = with_one ++ logged (codes "TL/D-LATE/1/2") (Flown second) ∷ []

-- each goes to the value of the inspection; with the second it was done past its due
first_credited : done_become inspected (logged (codes "TL/D-LATE/1/1") (Flown first)) (done_rows inspected) ≡ stated ∷ inspection 62960 901 62960 ∷ []
first_credited = refl

second_credited : done_become with_one (logged (codes "TL/D-LATE/1/2") (Flown second)) (done_rows with_one) ≡ stated ∷ inspection 63020 902 63000 ∷ []
second_credited = refl

both_kept : done_rows with_two ≡ stated ∷ inspection 63020 902 63000 ∷ []
both_kept = refl

-- what was fitted throughout is credited, a release before the landing is not, nor is what is among no numbers
numbers : map (numbers_flown with_one) (second ∷ flight 3 (at 19786 11 30) (at 19786 12 30) ∷ []) ≡ (5 ∷ 6 ∷ []) ∷ (5 ∷ []) ∷ []
numbers = refl

not_credited : map (λ (s : Sector). credited_late inspected (5 ∷ 6 ∷ []) s (inspection 62900 900 62900)) (flight 3 (at 19786 11 30) (at 19786 12 30) ∷ flight 3 (at 19786 11 0) (at 19786 12 0) ∷ []) ≡ inspection 62900 900 62900 ∷ record (inspection 62960 901 62900) { base = value 62900 900 } ∷ []
not_credited = refl

none_of_it : credited_late inspected (6 ∷ []) first (inspection 62900 900 62900) ≡ inspection 62900 900 62900
none_of_it = refl

-- due and base anew, by the programme where the release was made
anew : rebased with_two (Airframe late) (codes "100H") None (record (inspection 63020 902 0) { due = no_limit } ∷ []) ≡ inspection 63020 902 63000 ∷ []
anew = refl

-- a second row is due behind the base of the first, here by 6,000 minutes
anew_behind : rebased (inspected ++ logged (codes "W4") (inspect 13) ∷ []) (Airframe late) (codes "100H") None (inspection 62900 900 0 ∷ record (inspection 62900 900 0) { seq = 10 } ∷ [])
    ≡ inspection 62900 900 62900 ∷ record (inspection 62900 900 62900) { seq = 10; due = minutes_alone 68900 } ∷ []
anew_behind = refl

two_kept : map {B = ℕ × Limit} (λ row. (row.seq, row.due)) (done_rows_of (inspected ++ logged (codes "W4") (inspect 13) ∷ []) 5 (Airframe late) (codes "100H")) ≡ (9, minutes_alone 63000) ∷ (10, minutes_alone 68900) ∷ []
two_kept = refl

said_alone : valued (inspection 62900 900 62800) ≡ record (inspection 62900 900 62900) { due = no_limit }
said_alone = refl

-- and by the rows alone: a due is moved as far as the base before it
abbrev again : ℕ → ℕ → ℕ → DoneRow
again minutes due base = record (inspection minutes 901 base) { seq = 12; due = minutes_alone due }

moved_alone : moved None None (record (inspection 62960 901 62900) { base = value 62900 900 } ∷ again 69000 68900 68900 ∷ []) ≡ inspection 62960 901 62960 ∷ again 69000 68960 68960 ∷ []
moved_alone = refl

-- ── cycles at which defects were found ──

abbrev defer : ℕ → Act
defer hour = Deferred (record { tail = late; moment = at 19786 hour 0; reference = codes "33-40-01"; category = C })

abbrev found : ℕ → ℕ → ℕ → Deferral3Row
found seq hour cycles = record { deferral = record { seq = seq; aircraft = 5; moment = at 19786 hour 0; reference = codes "33-40-01"; category = C }; found_cycles = cycles }

abbrev deferred : List Entry
deferred = inspected ++ logged (codes "X1") (defer 13) ∷ []

found_kept : found_rows deferred ≡ found 10 13 900 ∷ []
found_kept = refl

-- by the sectors that had landed then
found_behind : found_rows (inspected ++ logged (codes "TL/D-LATE/1/9") (Flown (flight 9 (at 19786 14 0) (at 19786 15 0))) ∷ logged (codes "X1") (defer 16) ∷ []) ≡ found 11 16 901 ∷ []
found_behind = refl

found_next : found_become deferred (logged (codes "X2") (defer 14)) (found_rows deferred) ≡ found 10 13 900 ∷ found 11 14 900 ∷ []
found_next = refl

-- a sector adds to those of its aircraft that were found when it had landed
abbrev first_flight : Act
first_flight = Flown (flight 1 (at 19786 12 0) (at 19786 13 0))

abbrev another : Deferral3Row
another = let row = found 12 14 900 in record row { deferral = record row.deferral { aircraft = 1 } }

found_credited : found_become deferred (logged (codes "TL/D-LATE/1/1") first_flight) (found 10 13 900 ∷ found 11 12 900 ∷ another ∷ []) ≡ found 10 13 901 ∷ found 11 12 900 ∷ another ∷ []
found_credited = refl

found_touched : map (is_found_touched deferred first_flight) (found 10 13 900 ∷ found 11 12 900 ∷ another ∷ []) ≡ true ∷ false ∷ false ∷ []
found_touched = refl

-- a deferral touches none
found_untouched : is_found_touched deferred (defer 14) (found 10 13 900) ≡ false
found_untouched = refl
