-- Worked programmes: at the ends of their shapes and past them, computed from the definitions.
use Rattle.std.proofs.Common.{refl, ◌≡◌, ℕ, suc, zero, ◌+◌, List, [], ◌∷◌, true, false, Option, Some, None}
use Rattle.std.specs.Prelude.{codes, is_some, map}
use Rattle.std.specs.List.{list_all, list_any}
use Rattle.mx_base.specs.declared.amounts.Limit.{Limit}
use Rattle.mx_base.specs.declared.amounts.Tolerance.{Tolerance}
use Rattle.mx_book.specs.commands.Act.{Act, act_of, Loaded, Opened, Flown, programme_of, tasks_of, opening_of}
use Rattle.mx_book.specs.commands.Programme.{limit_shape, tolerance_shape, task_shape, programme_shape}
use Rattle.mx_book.specs.commands.Same.{same_act}
use Rattle.mx_book.specs.commands.Shape.{has_shape}
use Rattle.mx_book.specs.declared.commands.body.Body.TheVariants as bodies
use Rattle.mx_book.specs.declared.commands.item.Item.{Item}
use Rattle.mx_book.specs.declared.commands.item.Item.TheVariants as items
use Rattle.mx_book.specs.declared.commands.opening.Opening.{Opening}
use Rattle.mx_book.specs.declared.commands.programme.Programme.{Programme}
use Rattle.mx_book.specs.declared.commands.programme.Task.{Task}
use Rattle.mx_book.specs.declared.commands.programme.Applies.TheVariants as applies
use Rattle.mx_book.proofs.CommandsProofs.Worked.{abcd, used, sector, command, aircraft_with, engine_with, fit, remove, kinds_said}
use Rattle.mx_book.specs.declared.commands.programme_shape.TheConstants.{LAST_REVISION, MOST_TASKS, MOST_LIMIT_MINUTES, MOST_LIMIT_CYCLES, MOST_LIMIT_DAYS}

abbrev minutes_alone : ℕ → Limit
minutes_alone n = record { minutes = Some n; cycles = None; days = None }

abbrev cycles_alone : ℕ → Limit
cycles_alone n = record { minutes = None; cycles = Some n; days = None }

abbrev days_alone : ℕ → Limit
days_alone n = record { minutes = None; cycles = None; days = Some n }

abbrev in_each : ℕ → ℕ → ℕ → Limit
in_each minutes cycles days = record { minutes = Some minutes; cycles = Some cycles; days = Some days }

abbrev tolerated : ℕ → ℕ → ℕ → Tolerance
tolerated minutes cycles days = record { minutes = minutes; cycles = cycles; days = days }

-- ── limits ──

limits_of_the_shape : list_all limit_shape (minutes_alone 1 ∷ minutes_alone 6000000 ∷ cycles_alone 1 ∷ cycles_alone 1000000 ∷ days_alone 1
    ∷ days_alone 36500 ∷ in_each 6000000 1000000 36500 ∷ [])
    ≡ true
limits_of_the_shape = refl

limits_past_the_shape : list_any limit_shape (minutes_alone 0 ∷ minutes_alone 6000001 ∷ cycles_alone 0 ∷ cycles_alone 1000001 ∷ days_alone 0
    ∷ days_alone 36501 ∷ in_each 0 1 1 ∷ in_each 1 0 1 ∷ in_each 1 1 0 ∷ [])
    ≡ false
limits_past_the_shape = refl

limit_of_no_dimension : limit_shape (record { minutes = None; cycles = None; days = None }) ≡ false
limit_of_no_dimension = refl

tolerances_of_the_shape : list_all tolerance_shape (tolerated 0 0 0 ∷ tolerated 6000000 1000000 36500 ∷ []) ≡ true
tolerances_of_the_shape = refl

tolerances_past_the_shape : list_any tolerance_shape (tolerated 6000001 0 0 ∷ tolerated 0 1000001 0 ∷ tolerated 0 0 36501 ∷ []) ≡ false
tolerances_past_the_shape = refl

-- ── tasks ──

-- the inspection every 100 hours, first at 1,050 hours, which may be done 10 hours late
abbrev hundred_hours : Task
hundred_hours = record { id = codes "100H"; applies = applies.Airframe; first = minutes_alone 63000; repeat = Some (minutes_alone 6000); tolerance = tolerated 600 0 0; retire = false }

-- the overhaul of an engine every 2,000 hours
abbrev overhaul : Task
overhaul = record { id = codes "OVH"; applies = applies.Part (codes "IO360"); first = minutes_alone 120000; repeat = Some (minutes_alone 120000); tolerance = tolerated 0 0 0; retire = false }

-- a disc that is retired at 100 cycles, with this repeat and this tolerance
abbrev disc : Option Limit → Tolerance → Task
disc repeat tolerance = record { id = codes "DISC"; applies = applies.Part (codes "LLP1"); first = cycles_alone 100; repeat = repeat; tolerance = tolerance; retire = true }

tasks_of_the_shape : list_all task_shape (hundred_hours ∷ overhaul ∷ disc None (tolerated 0 0 0) ∷ []) ≡ true
tasks_of_the_shape = refl

-- a first limit, a repeat or a tolerance past its bounds
tasks_past_the_shape : list_any task_shape (record hundred_hours { first = minutes_alone 0 } ∷ record hundred_hours { repeat = Some (minutes_alone 0) }
    ∷ record hundred_hours { tolerance = tolerated 6000001 0 0 } ∷ [])
    ≡ false
tasks_past_the_shape = refl

-- an item that is retired is neither worked on again nor tolerated past its end
retired_with_more : list_any task_shape (disc (Some (cycles_alone 100)) (tolerated 0 0 0) ∷ disc None (tolerated 0 1 0) ∷ disc None (tolerated 0 0 1) ∷ []) ≡ false
retired_with_more = refl

-- ── programmes ──

abbrev revision_of : ℕ → Programme
revision_of n = record { kind = codes "C172"; revision = n }

-- so many tasks of distinct names
many_tasks : ℕ → List Task
many_tasks zero = []
many_tasks (suc n) = record hundred_hours { id = (33 + n) ∷ [] } ∷ many_tasks n

programmes_of_the_shape : list_all (λ n. programme_shape (revision_of n) (hundred_hours ∷ overhaul ∷ [])) (1 ∷ 1000000 ∷ []) ≡ true
programmes_of_the_shape = refl

revisions_past_the_shape : list_any (λ n. programme_shape (revision_of n) (hundred_hours ∷ overhaul ∷ [])) (0 ∷ 1000001 ∷ []) ≡ false
revisions_past_the_shape = refl

no_task : programme_shape (revision_of 1) [] ≡ false
no_task = refl

-- a task past its shape, first or last
task_past_the_shape : list_any (programme_shape (revision_of 1)) ((disc None (tolerated 0 1 0) ∷ overhaul ∷ []) ∷ (overhaul ∷ disc None (tolerated 0 1 0) ∷ []) ∷ []) ≡ false
task_past_the_shape = refl

-- a name that stands first and last, of other work
name_twice : programme_shape (revision_of 1) (overhaul ∷ hundred_hours ∷ record hundred_hours { id = codes "OVH" } ∷ []) ≡ false
name_twice = refl

name_twice_behind : programme_shape (revision_of 1) (hundred_hours ∷ overhaul ∷ record hundred_hours { id = codes "OVH" } ∷ []) ≡ false
name_twice_behind = refl

ninety_tasks : programme_shape (revision_of 1) (many_tasks 90) ≡ true
unfolding many_tasks
ninety_tasks = refl

-- ── commands ──

abbrev load : List Task → Act
load tasks = Loaded (revision_of 1) tasks

-- the yearly inspection of an item of a C172, last done on a day, 2023-06-01 being day 19,509
abbrev stated : Item → ℕ → ℕ → ℕ → Opening
stated item minutes cycles day = record { item = item; kind = codes "C172"; task = codes "ANNUAL"; use_then = used minutes cycles; day = day }

abbrev open_task : ℕ → ℕ → ℕ → Act
open_task minutes cycles day = Opened (stated (items.Airframe abcd) minutes cycles day)

-- each by a document that it may have, the opening at the ends of its use
commands_of_the_shape : list_all has_shape (command (codes "P1") (load (hundred_hours ∷ overhaul ∷ [])) ∷ command (codes "O1") (open_task 59000 780 19509)
    ∷ command (codes "O1") (open_task 100000000 1000000 0) ∷ [])
    ≡ true
commands_of_the_shape = refl

-- none has a document of the log
commands_by_other_documents : list_any has_shape (command (codes "TL/1") (load (hundred_hours ∷ [])) ∷ command (codes "TL/1") (open_task 59000 780 19509) ∷ []) ≡ false
commands_by_other_documents = refl

commands_past_the_shape : list_any has_shape (command (codes "P1") (load []) ∷ command (codes "P1") (load (overhaul ∷ overhaul ∷ []))
    ∷ command (codes "O1") (open_task 100000001 0 19509) ∷ command (codes "O1") (open_task 0 1000001 19509) ∷ [])
    ≡ false
commands_past_the_shape = refl

-- ── what is said ──

programme_loaded : programme_of (load (hundred_hours ∷ overhaul ∷ [])) ≡ Some (revision_of 1)
programme_loaded = refl

tasks_loaded : tasks_of (load (hundred_hours ∷ overhaul ∷ [])) ≡ hundred_hours ∷ overhaul ∷ []
tasks_loaded = refl

task_opened : opening_of (open_task 59000 780 19509) ≡ Some (stated (items.Airframe abcd) 59000 780 19509)
task_opened = refl

-- neither is shown of any other kind of command, and they show nothing else
abbrev others : List Act
others = aircraft_with 800 ∷ engine_with 100 ∷ Flown (sector 12 1 90 1) ∷ fit ∷ remove ∷ []

no_programme : list_any (λ act. is_some (programme_of act)) (open_task 59000 780 19509 ∷ others) ≡ false
no_programme = refl

no_tasks : tasks_of (open_task 59000 780 19509) ≡ []
no_tasks = refl

no_opening : list_any (λ act. is_some (opening_of act)) (load (hundred_hours ∷ []) ∷ others) ≡ false
no_opening = refl

abbrev new_acts : List Act
new_acts = load (hundred_hours ∷ []) ∷ open_task 59000 780 19509 ∷ []

nothing_else : map kinds_said new_acts ≡ (codes "programme" ∷ []) ∷ (codes "opening" ∷ []) ∷ []
nothing_else = refl

body_of_an_opening : act_of (bodies.Opening (items.Airframe abcd) (codes "C172") (codes "ANNUAL") (used 59000 780) 19509) ≡ open_task 59000 780 19509
body_of_an_opening = refl

-- ── equal contents ──

same_programme : same_act (load (hundred_hours ∷ overhaul ∷ [])) (load (hundred_hours ∷ overhaul ∷ [])) ≡ true
same_programme = refl

-- each field of a task counts, and the order of the tasks
other_programmes : list_any (same_act (load (hundred_hours ∷ overhaul ∷ []))) (load (overhaul ∷ hundred_hours ∷ []) ∷ load (hundred_hours ∷ [])
    ∷ load (record hundred_hours { id = codes "200H" } ∷ overhaul ∷ []) ∷ load (hundred_hours ∷ record overhaul { applies = applies.Part (codes "IO540") } ∷ [])
    ∷ load (hundred_hours ∷ record overhaul { applies = applies.Airframe } ∷ []) ∷ load (record hundred_hours { first = cycles_alone 63000 } ∷ overhaul ∷ [])
    ∷ load (record hundred_hours { repeat = None } ∷ overhaul ∷ []) ∷ load (record hundred_hours { repeat = Some (minutes_alone 6001) } ∷ overhaul ∷ [])
    ∷ load (record hundred_hours { tolerance = tolerated 0 0 600 } ∷ overhaul ∷ []) ∷ load (hundred_hours ∷ record overhaul { retire = true } ∷ []) ∷ [])
    ≡ false
other_programmes = refl

other_revision : same_act (load (overhaul ∷ [])) (Loaded (revision_of 2) (overhaul ∷ [])) ≡ false
other_revision = refl

same_opening : same_act (open_task 59000 780 19509) (open_task 59000 780 19509) ≡ true
same_opening = refl

other_openings : list_any (same_act (open_task 59000 780 19509)) (open_task 59001 780 19509 ∷ open_task 59000 781 19509 ∷ open_task 59000 780 19510
    ∷ Opened (stated (items.Component abcd) 59000 780 19509) ∷ Opened (stated (items.Airframe (codes "D-EFGH")) 59000 780 19509) ∷ [])
    ≡ false
other_openings = refl

-- ── the bounds, as numbers ──

-- the revision of a programme, its tasks, and the minutes, cycles and days of a limit
most_of_a_programme : LAST_REVISION ∷ MOST_TASKS ∷ MOST_LIMIT_MINUTES ∷ MOST_LIMIT_CYCLES ∷ MOST_LIMIT_DAYS ∷ [] ≡ 1000000 ∷ 500 ∷ 6000000 ∷ 1000000 ∷ 36500 ∷ []
most_of_a_programme = refl
