-- Worked examples of releases: at an aircraft and in a shop, and by which refusal they are met.
use Rattle.std.proofs.Common.{refl, ◌≡◌, ℕ, List, [], ◌∷◌, ◌++◌, true, false, Option, Some, None}
use Rattle.std.specs.Prelude.{codes, map}
use Rattle.std.specs.Fmt.{digits}
use Rattle.std.specs.List.{list_all}
use Rattle.mx_base.specs.declared.amounts.Limit.{Limit}
use Rattle.mx_book.specs.commands.Act.{Act, Entry, Added, Flown, Released}
use Rattle.mx_book.specs.commands.Shape.{has_shape}
use Rattle.mx_book.specs.declared.commands.item.Item.TheVariants.{Airframe, Component}
use Rattle.mx_book.specs.declared.commands.programme.Applies.TheVariants as applies
use Rattle.mx_book.specs.declared.commands.programme.Task.{Task}
use Rattle.mx_book.specs.declared.commands.release.Line.{Line}
use Rattle.mx_book.specs.declared.commands.release.Line.TheVariants.{Done}
use Rattle.mx_book.specs.declared.commands.release.Place.{Place}
use Rattle.mx_book.specs.declared.commands.release.Place.TheVariants.{Aircraft, Shop}
use Rattle.mx_book.specs.declared.verdict.Refusal.TheVariants.{Conflict, UnknownAircraft, UnknownComponent, UnknownProgramme, UnknownTask, AlreadyFitted, ItemElsewhere, TaskClosed, LifeLimit, OutOfOrder, RepeatedLine}
use Rattle.mx_book.specs.declared.verdict.Verdict.TheVariants.{New, Refused}
use Rattle.mx_book.specs.declared.verdict.Reply.TheVariants as answers
use Rattle.mx_book.specs.Life.{clock, life_now}
use Rattle.mx_book.specs.Programme.{is_accomplished}
use Rattle.mx_book.specs.Judge.{judge}
use Rattle.mx_book.specs.Book.{is_book}
use Rattle.mx_book.specs.Run.{replies}
use Rattle.mx_book.proofs.Worked.{at, used, abcd, logged}
use Rattle.mx_book.proofs.WorkedFittings.{efgh, engine, e1, e2, fit, remove, replaced}
use Rattle.mx_book.proofs.WorkedProgrammes.{c172, minutes_alone, hundred_hours, overhaul, load, open_task, first_programme, judged}

-- E1 was replaced by E2 at 2024-03-01T09:30, and the programme was loaded: eight entries
abbrev in_service : List Entry
in_service = replaced ++ first_programme ∷ []

abbrev no_tail : List ℕ
no_tail = codes "D-NONE"

abbrev no_serial : List ℕ
no_serial = codes "E9"

abbrev hundred_hours_done : Line
hundred_hours_done = Done (Airframe abcd) (codes "100H")

abbrev annual_done : Line
annual_done = Done (Airframe abcd) (codes "ANNUAL")

abbrev overhaul_done : List ℕ → Line
overhaul_done serial = Done (Component serial) (codes "OVH")

-- a release on 2024-03-02, at so many hours and minutes
abbrev released : Place → ℕ → ℕ → List Line → Act
released place hours minutes lines = Released (record { place = place; moment = at 19784 hours minutes }) lines

-- at D-ABCD, or in a shop by the programme of the C172, at 2024-03-02T00:00
abbrev at_abcd : List Line → Act
at_abcd lines = released (Aircraft abcd) 0 0 lines

abbrev in_shop : List ℕ → List Line → Act
in_shop serial lines = released (Shop serial c172) 0 0 lines

-- E1 is overhauled in a shop
abbrev e1_overhauled : Entry
e1_overhauled = logged (codes "WO1") (in_shop e1 (overhaul_done e1 ∷ []))

-- and D-ABCD inspected, with its engine
abbrev inspected : Entry
inspected = logged (codes "WO2") (released (Aircraft abcd) 12 0 (hundred_hours_done ∷ annual_done ∷ overhaul_done e2 ∷ []))

abbrev maintained : List Entry
maintained = in_service ++ e1_overhauled ∷ inspected ∷ []

shapes : list_all has_shape maintained ≡ true
unfolding digits
shapes = refl

accepted : is_book maintained ≡ true
accepted = refl

-- the ninth and the tenth entry; the same again is known, and with other lines in conflict
replied : replies in_service (e1_overhauled ∷ inspected ∷ e1_overhauled ∷ logged (codes "WO1") (in_shop e1 (overhaul_done e2 ∷ [])) ∷ [])
    ≡ answers.Accepted 9 ∷ answers.Accepted 10 ∷ answers.Already 9 ∷ answers.Refused (Conflict 9) ∷ []
replied = refl

-- work changes no life
lives_stay : map (life_now maintained) (Airframe abcd ∷ Component e1 ∷ Component e2 ∷ []) ≡ Some (used 60090 801) ∷ Some (used 1090 101) ∷ Some (used 1000 100) ∷ []
lives_stay = refl

-- what was done is accomplished, on that item alone
done : map (λ item. is_accomplished maintained item (codes "OVH")) (Component e1 ∷ Component e2 ∷ Airframe abcd ∷ []) ≡ true ∷ true ∷ false ∷ []
done = refl

not_done : map (is_accomplished (in_service ++ e1_overhauled ∷ []) (Component e1)) (codes "OVH" ∷ codes "100H" ∷ []) ≡ true ∷ false ∷ []
not_done = refl

-- ── where the work was done ──

-- E2 is fitted, and so not in a shop
fitted_in_shop : judged in_service (in_shop e2 (overhaul_done e2 ∷ [])) ≡ Refused AlreadyFitted
fitted_in_shop = refl

-- E2 is at D-ABCD, and E1 not
at_the_aircraft : map (λ serial. judged in_service (at_abcd (overhaul_done serial ∷ []))) (e2 ∷ e1 ∷ []) ≡ New ∷ Refused ItemElsewhere ∷ []
at_the_aircraft = refl

-- a shop has its component alone
in_the_shop : map (λ line. judged in_service (in_shop e1 (line ∷ []))) (overhaul_done e1 ∷ overhaul_done e2 ∷ hundred_hours_done ∷ []) ≡ New ∷ Refused ItemElsewhere ∷ Refused ItemElsewhere ∷ []
in_the_shop = refl

-- beside D-EFGH of this kind
abbrev beside_another : List ℕ → List Entry
beside_another kind = in_service ++ logged (codes "A2") (Added (record { tail = efgh; kind = kind; birth = 19509; opening = used 0 0; as_of = at 19723 0 0 }) []) ∷ []

-- each aircraft has its own airframe alone, and what is fitted to it
other_airframe : map (judged (beside_another c172)) (released (Aircraft efgh) 0 0 (Done (Airframe efgh) (codes "100H") ∷ []) ∷ at_abcd (Done (Airframe efgh) (codes "100H") ∷ [])
    ∷ released (Aircraft efgh) 0 0 (overhaul_done e2 ∷ []) ∷ [])
    ≡ New ∷ Refused ItemElsewhere ∷ Refused ItemElsewhere ∷ []
other_airframe = refl

-- ── what is unknown ──

unknown_tails : map (judged in_service) (released (Aircraft no_tail) 0 0 (hundred_hours_done ∷ []) ∷ at_abcd (hundred_hours_done ∷ Done (Airframe no_tail) (codes "100H") ∷ [])
    ∷ in_shop e1 (Done (Airframe no_tail) (codes "100H") ∷ []) ∷ [])
    ≡ Refused UnknownAircraft ∷ Refused UnknownAircraft ∷ Refused UnknownAircraft ∷ []
unknown_tails = refl

unknown_serials : map (judged in_service) (in_shop no_serial (overhaul_done e1 ∷ []) ∷ in_shop e1 (overhaul_done e1 ∷ overhaul_done no_serial ∷ []) ∷ at_abcd (overhaul_done no_serial ∷ []) ∷ [])
    ≡ Refused UnknownComponent ∷ Refused UnknownComponent ∷ Refused UnknownComponent ∷ []
unknown_serials = refl

-- a shop works by the programme of the kind that it names, an aircraft by that of its own
no_programme : judged in_service (released (Shop e1 (codes "PA28")) 0 0 (overhaul_done e1 ∷ [])) ≡ Refused UnknownProgramme
no_programme = refl

-- and the programme of another kind has other tasks
abbrev other_programme : Entry
other_programme = logged (codes "P2") (load (codes "PA28") 1 (record overhaul { id = codes "TOP" } ∷ []))

programmes_of_shops : map (λ kind. judged (in_service ++ other_programme ∷ []) (released (Shop e1 kind) 0 0 (Done (Component e1) (codes "TOP") ∷ []))) (codes "PA28" ∷ c172 ∷ []) ≡ New ∷ Refused UnknownTask ∷ []
programmes_of_shops = refl

no_programme_of_an_aircraft : judged (beside_another (codes "PA28")) (released (Aircraft efgh) 0 0 (Done (Airframe efgh) (codes "100H") ∷ [])) ≡ Refused UnknownProgramme
no_programme_of_an_aircraft = refl

-- a task of no programme, one of a part on an airframe, one of an airframe on a component
unknown_tasks : map (judged in_service) (at_abcd (Done (Airframe abcd) (codes "NONE") ∷ []) ∷ at_abcd (Done (Airframe abcd) (codes "OVH") ∷ []) ∷ at_abcd (Done (Component e2) (codes "100H") ∷ [])
    ∷ in_shop e1 (Done (Component e1) (codes "NONE") ∷ []) ∷ [])
    ≡ Refused UnknownTask ∷ Refused UnknownTask ∷ Refused UnknownTask ∷ Refused UnknownTask ∷ []
unknown_tasks = refl

-- ── when it was done ──

-- at a minute of 2024-03-01 past nine
abbrev past_nine : Place → Line → ℕ → Act
past_nine place line minutes = Released (record { place = place; moment = at 19783 9 minutes }) (line ∷ [])

-- the clock of D-ABCD is the landing, and E1's its removal, both at 09:30
at_the_clock : map (λ minutes. judged in_service (past_nine (Aircraft abcd) hundred_hours_done minutes)) (29 ∷ 30 ∷ []) ≡ Refused (OutOfOrder (at 19783 9 30)) ∷ New ∷ []
at_the_clock = refl

at_the_clock_in_shop : map (λ minutes. judged in_service (past_nine (Shop e1 c172) (overhaul_done e1) minutes)) (29 ∷ 30 ∷ []) ≡ Refused (OutOfOrder (at 19783 9 30)) ∷ New ∷ []
at_the_clock_in_shop = refl

-- a release raises the clock of its place, and of nothing else
clocks : map (clock maintained) (Airframe abcd ∷ Component e1 ∷ Component e2 ∷ []) ≡ at 19784 12 0 ∷ at 19784 0 0 ∷ at 19783 9 30 ∷ []
clocks = refl

-- work at another aircraft leaves it as it is
clock_beside_another : clock (beside_another c172 ++ logged (codes "WO3") (released (Aircraft efgh) 12 0 (Done (Airframe efgh) (codes "100H") ∷ [])) ∷ []) (Airframe abcd) ≡ at 19783 9 30
clock_beside_another = refl

-- a sector that takes off before the release
sectors_behind : map (λ minutes. judge maintained (logged (codes "TL/D-ABCD/12/2") (Flown (record { tail = abcd; page = 12; line = 2; off = at 19784 11 minutes; on = at 19784 14 0; cycles = 1 })))) (59 ∷ 60 ∷ [])
    ≡ Refused (OutOfOrder (at 19784 12 0)) ∷ New ∷ []
sectors_behind = refl

-- E2 makes room for E1, which is not fitted before it left the shop
abbrev room_for_e1 : List Entry
room_for_e1 = in_service ++ e1_overhauled ∷ logged (codes "R2") (remove e2 (at 19783 9 30)) ∷ []

fitted_behind : map (λ moment. judged room_for_e1 (fit e1 abcd engine moment)) (at 19783 23 59 ∷ at 19784 0 0 ∷ []) ≡ Refused (OutOfOrder (at 19784 0 0)) ∷ New ∷ []
fitted_behind = refl

-- ── what was done before ──

-- a modification that is done once, a disc that is retired, and the inspection every 100 hours
abbrev modification : Option Limit → Task
modification repeat = record { id = codes "MOD"; applies = applies.Airframe; first = minutes_alone 63000; repeat = repeat; tolerance = record { minutes = 0; cycles = 0; days = 0 }; retire = false }

abbrev retirement : Task
retirement = record { id = codes "LIFE"; applies = applies.Part (codes "IO360"); first = minutes_alone 200000; repeat = None; tolerance = record { minutes = 0; cycles = 0; days = 0 }; retire = true }

abbrev second_programme : Entry
second_programme = logged (codes "P2") (load c172 2 (modification None ∷ retirement ∷ hundred_hours ∷ overhaul ∷ []))

abbrev modified : Line
modified = Done (Airframe abcd) (codes "MOD")

abbrev once_modified : List Entry
once_modified = in_service ++ second_programme ∷ logged (codes "WO3") (at_abcd (modified ∷ hundred_hours_done ∷ [])) ∷ []

accepted_once : is_book once_modified ≡ true
accepted_once = refl

-- what is repeated is done again, and what is not is closed
done_again : map (λ line. judged once_modified (at_abcd (line ∷ []))) (hundred_hours_done ∷ modified ∷ []) ≡ New ∷ Refused TaskClosed ∷ []
done_again = refl

-- a revision opens it again that repeats it
repeated_since : judged (once_modified ++ logged (codes "P3") (load c172 3 (modification (Some (minutes_alone 6000)) ∷ [])) ∷ []) (at_abcd (modified ∷ [])) ≡ New
repeated_since = refl

-- what an opening states was done too; 2024-01-01 is the day of the as_of
abbrev opened : List ℕ → Entry
opened task = logged (codes "O1") (open_task (Airframe abcd) c172 task 60000 800 19723)

done_since_opened : map (λ task. judged (in_service ++ second_programme ∷ opened task ∷ []) (at_abcd (Done (Airframe abcd) task ∷ []))) (codes "100H" ∷ codes "MOD" ∷ []) ≡ New ∷ Refused TaskClosed ∷ []
done_since_opened = refl

-- what was done in a release is not opened any more
opened_since_done : judged once_modified (open_task (Airframe abcd) c172 (codes "100H") 60000 800 19723) ≡ Refused TaskClosed
opened_since_done = refl

-- no work is released that retires its item
retired : judged once_modified (in_shop e1 (Done (Component e1) (codes "LIFE") ∷ [])) ≡ Refused LifeLimit
retired = refl

-- ── several lines ──

repeated_line : map (judged in_service) (at_abcd (hundred_hours_done ∷ hundred_hours_done ∷ [])
    ∷ at_abcd (hundred_hours_done ∷ annual_done ∷ hundred_hours_done ∷ []) ∷ at_abcd (hundred_hours_done ∷ annual_done ∷ []) ∷ [])
    ≡ Refused RepeatedLine ∷ Refused RepeatedLine ∷ New ∷ []
repeated_line = refl

-- each is judged by the book before the release: a task that is done once, in two lines
closed_by_the_book : judged (in_service ++ second_programme ∷ []) (at_abcd (modified ∷ modified ∷ [])) ≡ Refused RepeatedLine
closed_by_the_book = refl

-- the least number of all lines counts, whichever line it is of
least_of_lines : map (judged in_service) (at_abcd (overhaul_done e1 ∷ Done (Airframe abcd) (codes "NONE") ∷ []) ∷ at_abcd (hundred_hours_done ∷ Done (Airframe abcd) (codes "NONE") ∷ overhaul_done e1 ∷ []) ∷ [])
    ≡ Refused UnknownTask ∷ Refused UnknownTask ∷ []
least_of_lines = refl

least_of_closed : map (judged once_modified) (at_abcd (modified ∷ overhaul_done e1 ∷ []) ∷ at_abcd (Done (Component e2) (codes "LIFE") ∷ modified ∷ []) ∷ []) ≡ Refused ItemElsewhere ∷ Refused TaskClosed ∷ []
least_of_closed = refl

least_behind : map (judged once_modified) (past_nine (Aircraft abcd) (Done (Component e2) (codes "LIFE")) 29
    ∷ Released (record { place = Aircraft abcd; moment = at 19783 9 29 }) (hundred_hours_done ∷ hundred_hours_done ∷ []) ∷ [])
    ≡ Refused LifeLimit ∷ Refused (OutOfOrder (at 19784 0 0)) ∷ []
least_behind = refl

-- so do the numbers of the place beside those of the lines
least_of_names : map (judged in_service) (in_shop no_serial (Done (Airframe no_tail) (codes "100H") ∷ []) ∷ released (Shop no_serial (codes "PA28")) 0 0 (overhaul_done e1 ∷ [])
    ∷ in_shop e2 (Done (Component e2) (codes "NONE") ∷ []) ∷ in_shop e2 (overhaul_done e1 ∷ []) ∷ [])
    ≡ Refused UnknownAircraft ∷ Refused UnknownComponent ∷ Refused UnknownTask ∷ Refused AlreadyFitted ∷ []
least_of_names = refl
