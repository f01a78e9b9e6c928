-- Worked examples of programmes: loaded, opened, and at the end of a component's life.
use Rattle.std.proofs.Common.{refl, ◌≡◌, ℕ, List, [], ◌∷◌, ◌++◌, true, false, Some, None}
use Rattle.std.specs.Prelude.{codes, map}
use Rattle.std.specs.Fmt.{digits}
use Rattle.std.specs.List.{list_all}
use Rattle.mx_base.specs.declared.amounts.Limit.{Limit}
use Rattle.mx_book.specs.commands.Act.{Act, Entry, Added, Listed, Loaded, Opened}
use Rattle.mx_book.specs.commands.Shape.{has_shape}
use Rattle.mx_book.specs.declared.commands.item.Item.{Item}
use Rattle.mx_book.specs.declared.commands.item.Item.TheVariants.{Airframe, Component}
use Rattle.mx_book.specs.declared.commands.programme.Applies.TheVariants as applies
use Rattle.mx_book.specs.declared.commands.programme.Task.{Task}
use Rattle.mx_book.specs.declared.verdict.Refusal.TheVariants.{Conflict, UnknownAircraft, UnknownComponent, UnknownProgramme, UnknownTask, WrongPart, TaskClosed, LifeLimit, WrongRevision, OtherAircraft, OpeningTooLate, OpeningTooLarge}
use Rattle.mx_book.specs.declared.verdict.Verdict.{Verdict}
use Rattle.mx_book.specs.declared.verdict.Verdict.TheVariants.{New, Refused}
use Rattle.mx_book.specs.declared.verdict.Reply.TheVariants as answers
use Rattle.mx_book.specs.Programme.{tasks_in_force, revision_in_force}
use Rattle.mx_book.specs.Judge.{judge}
use Rattle.mx_book.specs.Book.{is_book}
use Rattle.mx_book.specs.Run.{replies}
use Rattle.mx_book.proofs.Worked.{at, used, abcd, logged, first_sector}
use Rattle.mx_book.proofs.WorkedFittings.{efgh, e1, engine_with, fit, first_aircraft, second_aircraft}

abbrev pub c172 : List ℕ
c172 = codes "C172"

abbrev pub minutes_alone : ℕ → Limit
minutes_alone n = record { minutes = Some n; cycles = None; days = None }

abbrev pub cycles_alone : ℕ → Limit
cycles_alone n = record { minutes = None; cycles = Some n; days = None }

abbrev pub days_alone : ℕ → Limit
days_alone n = record { minutes = None; cycles = None; days = Some n }

-- the inspection every 100 hours, first at 1,050 hours, which may be done 10 hours late
abbrev pub hundred_hours : Task
hundred_hours = record { id = codes "100H"; applies = applies.Airframe; first = minutes_alone 63000; repeat = Some (minutes_alone 6000); tolerance = record { minutes = 600; cycles = 0; days = 0 }; retire = false }

-- the yearly inspection, which may be done 30 days late
abbrev pub annual : Task
annual = record { id = codes "ANNUAL"; applies = applies.Airframe; first = days_alone 365; repeat = Some (days_alone 365); tolerance = record { minutes = 0; cycles = 0; days = 30 }; retire = false }

-- the overhaul of an engine every 2,000 hours
abbrev pub overhaul : Task
overhaul = record { id = codes "OVH"; applies = applies.Part (codes "IO360"); first = minutes_alone 120000; repeat = Some (minutes_alone 120000); tolerance = record { minutes = 0; cycles = 0; days = 0 }; retire = false }

abbrev pub load : List ℕ → ℕ → List Task → Act
load kind revision tasks = Loaded (record { kind = kind; revision = revision }) tasks

abbrev pub open_task : Item → List ℕ → List ℕ → ℕ → ℕ → ℕ → Act
open_task item kind task minutes cycles day = Opened (record { item = item; kind = kind; task = task; use_then = used minutes cycles; day = day })

abbrev pub first_programme : Entry
first_programme = logged (codes "P1") (load c172 1 (hundred_hours ∷ annual ∷ overhaul ∷ []))

-- the yearly inspection of D-ABCD was last done on 2023-06-01
abbrev first_opening : Entry
first_opening = logged (codes "O1") (open_task (Airframe abcd) c172 (codes "ANNUAL") 59000 780 19509)

abbrev pub first_four : List Entry
first_four = first_aircraft ∷ first_programme ∷ first_opening ∷ first_sector 1 ∷ []

-- the four have their shape, and are accepted one after the other
shapes : list_all has_shape first_four ≡ true
unfolding digits
shapes = refl

accepted : is_book first_four ≡ true
accepted = refl

first_replies : replies [] (first_four ++ first_sector 1 ∷ first_sector 2 ∷ [])
    ≡ answers.Accepted 1 ∷ answers.Accepted 2 ∷ answers.Accepted 3 ∷ answers.Accepted 4 ∷ answers.Already 4 ∷ answers.Refused (Conflict 4) ∷ []
first_replies = refl

-- ── revisions ──

abbrev pub judged : List Entry → Act → Verdict
judged book act = judge book (logged (codes "X1") act)

-- revision 2 follows revision 1, and revision 1 follows none, whatever other kinds have
revisions : map (λ n. judged first_four (load c172 n (annual ∷ []))) (1 ∷ 2 ∷ 3 ∷ []) ≡ Refused (WrongRevision 2) ∷ New ∷ Refused (WrongRevision 2) ∷ []
revisions = refl

first_revisions : map (λ n. judged first_four (load (codes "PA28") n (annual ∷ []))) (1 ∷ 2 ∷ []) ≡ New ∷ Refused (WrongRevision 1) ∷ []
first_revisions = refl

-- the second revision has no inspection every 100 hours
abbrev pub second_revision : List Entry
second_revision = first_four ++ logged (codes "P2") (load c172 2 (annual ∷ overhaul ∷ [])) ∷ []

in_force : tasks_in_force second_revision c172 ≡ Some (annual ∷ overhaul ∷ [])
in_force = refl

revision_is : revision_in_force second_revision c172 ≡ Some 2
revision_is = refl

-- a programme of another kind leaves it in force
in_force_beside_another : tasks_in_force (second_revision ++ logged (codes "P3") (load (codes "PA28") 1 (annual ∷ [])) ∷ []) c172 ≡ Some (annual ∷ overhaul ∷ [])
in_force_beside_another = refl

no_programme : tasks_in_force second_revision (codes "PA28") ≡ None
no_programme = refl

task_gone : judged second_revision (open_task (Airframe abcd) c172 (codes "100H") 60000 800 19723) ≡ Refused UnknownTask
task_gone = refl

-- ── openings ──

-- at the ends of what the aircraft brought with it: its use, and the day of its as_of, 2024-01-01
opened_at_the_end : judged first_four (open_task (Airframe abcd) c172 (codes "100H") 60000 800 19723) ≡ New
opened_at_the_end = refl

opened_twice : judged first_four (open_task (Airframe abcd) c172 (codes "ANNUAL") 59000 780 19509) ≡ Refused TaskClosed
opened_twice = refl

opened_too_late : judged first_four (open_task (Airframe abcd) c172 (codes "100H") 59000 780 19724) ≡ Refused OpeningTooLate
opened_too_late = refl

opened_too_large : map (judged first_four) (open_task (Airframe abcd) c172 (codes "100H") 60001 800 19723 ∷ open_task (Airframe abcd) c172 (codes "100H") 60000 801 19723 ∷ [])
    ≡ Refused OpeningTooLarge ∷ Refused OpeningTooLarge ∷ []
opened_too_large = refl

unknown_task : judged first_four (open_task (Airframe abcd) c172 (codes "200H") 0 0 19723) ≡ Refused UnknownTask
unknown_task = refl

-- an overhaul is not done on an airframe
part_of_an_airframe : judged first_four (open_task (Airframe abcd) c172 (codes "OVH") 0 0 19723) ≡ Refused UnknownTask
part_of_an_airframe = refl

unknown_programme : judged first_four (open_task (Airframe abcd) (codes "PA28") (codes "ANNUAL") 0 0 19723) ≡ Refused UnknownProgramme
unknown_programme = refl

unknown_items : map (λ item. judged first_four (open_task item (codes "PA28") (codes "ANNUAL") 0 0 19723)) (Airframe efgh ∷ Component e1 ∷ []) ≡ Refused UnknownAircraft ∷ Refused UnknownComponent ∷ []
unknown_items = refl

-- an aircraft of another kind: its programme and its task are looked for by the kind that is named
abbrev beside_another : List Entry
beside_another = first_four ++ logged (codes "A2") (Added (record { tail = efgh; kind = codes "PA28"; birth = 19509; opening = used 0 0; as_of = at 19723 0 0 }) []) ∷ []

other_kind : map (λ task. judged beside_another (open_task (Airframe efgh) c172 task 1 1 19724)) (codes "ANNUAL" ∷ codes "200H" ∷ []) ≡ Refused OtherAircraft ∷ Refused UnknownTask ∷ []
other_kind = refl

own_kind : judged beside_another (open_task (Airframe efgh) (codes "PA28") (codes "ANNUAL") 0 0 19723) ≡ Refused UnknownProgramme
own_kind = refl

-- another aircraft's task is its own
opened_for_another : judged (first_four ++ second_aircraft ∷ []) (open_task (Airframe efgh) c172 (codes "ANNUAL") 0 0 19723) ≡ New
opened_for_another = refl

-- the overhaul of E1, which brought 1,000 minutes and 100 cycles with it
abbrev with_engine : List Entry
with_engine = first_four ++ logged (codes "C1") (engine_with e1) ∷ []

opened_for_a_component : map (λ minutes. judged with_engine (open_task (Component e1) c172 (codes "OVH") minutes 100 19723)) (1000 ∷ 1001 ∷ []) ≡ New ∷ Refused OpeningTooLarge ∷ []
opened_for_a_component = refl

inspection_of_a_component : judged with_engine (open_task (Component e1) c172 (codes "ANNUAL") 0 0 19723) ≡ Refused UnknownTask
inspection_of_a_component = refl

-- ── the end of a life ──

-- discs of this part are retired at this limit
abbrev pub disc : List ℕ → Limit → Task
disc part first = record { id = codes "DISC"; applies = applies.Part part; first = first; repeat = None; tolerance = record { minutes = 0; cycles = 0; days = 0 }; retire = true }

abbrev pub llp1 : List ℕ
llp1 = codes "LLP1"

-- D1 is a disc LLP1, built on 2010-01-01 as day 14,610, with so many cycles on 2024-01-01; D-EFGH takes it, and an engine
abbrev with_disc : Task → ℕ → List Entry
with_disc task cycles =
    logged (codes "A2") (Added (record { tail = efgh; kind = c172; birth = 14610; opening = used 0 0; as_of = at 19723 0 0 }) ((codes "DISC", llp1) ∷ (codes "ENG", codes "IO360") ∷ []))
    ∷ logged (codes "C9") (Listed (record { serial = codes "D1"; part = llp1; birth = 14610; opening = used 500 cycles; as_of = at 19723 0 0 }))
    ∷ logged (codes "P1") (load c172 1 (annual ∷ task ∷ [])) ∷ []

abbrev fit_disc : ℕ → Act
fit_disc moment = fit (codes "D1") efgh (codes "DISC") moment

fitted_by_cycles : map (λ cycles. judged (with_disc (disc llp1 (cycles_alone 100)) cycles) (fit_disc (at 19754 0 0))) (99 ∷ 100 ∷ 101 ∷ []) ≡ New ∷ Refused LifeLimit ∷ Refused LifeLimit ∷ []
fitted_by_cycles = refl

fitted_by_minutes : map (λ minutes. judged (with_disc (disc llp1 (minutes_alone minutes)) 0) (fit_disc (at 19754 0 0))) (500 ∷ 501 ∷ []) ≡ Refused LifeLimit ∷ New ∷ []
fitted_by_minutes = refl

-- the day counts on which it is fitted: 5,144 days from its birth on it is retired
fitted_by_days : map (λ moment. judged (with_disc (disc llp1 (days_alone 5144)) 0) (fit_disc moment)) (at 19753 23 59 ∷ at 19754 0 0 ∷ []) ≡ New ∷ Refused LifeLimit ∷ []
fitted_by_days = refl

-- the limit of another part, and of a task that does not retire
limit_of_another_part : judged (with_disc (disc (codes "LLP2") (cycles_alone 100)) 100) (fit_disc (at 19754 0 0)) ≡ New
limit_of_another_part = refl

due_and_not_retired : judged (with_disc (record (disc llp1 (cycles_alone 100)) { retire = false }) 100) (fit_disc (at 19754 0 0)) ≡ New
due_and_not_retired = refl

-- the programme of the aircraft's kind alone counts, and of that the revision in force
limit_of_another_kind : judged (with_disc annual 100 ++ logged (codes "P2") (load (codes "PA28") 1 (disc llp1 (cycles_alone 100) ∷ [])) ∷ []) (fit_disc (at 19754 0 0)) ≡ New
limit_of_another_kind = refl

limit_gone : judged (with_disc (disc llp1 (cycles_alone 100)) 100 ++ logged (codes "P2") (load c172 2 (annual ∷ [])) ∷ []) (fit_disc (at 19754 0 0)) ≡ New
limit_gone = refl

-- behind the part of the position, and before the clocks
limit_in_order : map (judged (with_disc (disc llp1 (cycles_alone 100)) 100)) (fit (codes "D1") efgh (codes "ENG") 0 ∷ fit_disc (at 19722 0 0) ∷ []) ≡ Refused WrongPart ∷ Refused LifeLimit ∷ []
limit_in_order = refl

-- what retires an item cannot have been accomplished before
retirement_opened : judged (with_disc (disc llp1 (cycles_alone 100)) 0) (open_task (Component (codes "D1")) c172 (codes "DISC") 0 0 19723) ≡ Refused LifeLimit
retirement_opened = refl
