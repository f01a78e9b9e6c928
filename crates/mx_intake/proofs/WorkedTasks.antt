-- Worked tasks and programmes, computed from the definitions.
use Rattle.std.proofs.Common.{refl, ◌≡◌, ℕ, List, [], ◌∷◌, true, false, Some, None, Ok, Err}
use Rattle.std.specs.Prelude.{codes, ⊤, ℤ, pos, negsuc, Option, Result}
use Rattle.toml.specs.Data.{Data, string, integer, boolean, array, table, Items, no_items, item, Members, no_members, member}
use Rattle.mx_base.specs.declared.amounts.Limit.{Limit}
use Rattle.mx_base.specs.declared.amounts.Tolerance.{Tolerance}
use Rattle.mx_book.specs.declared.commands.programme.Applies.TheVariants.{Airframe, Part}
use Rattle.mx_book.specs.declared.commands.programme.Programme.{Programme}
use Rattle.mx_book.specs.declared.commands.programme.Task.{Task}
use Rattle.mx_intake.specs.Fault.{fault}
use Rattle.mx_intake.specs.ProgrammeText.{programme_of_table, table_of_text, programme_of_text}
use Rattle.mx_intake.specs.Tasks.{task_by_toml}
use Rattle.mx_intake.specs.declared.fault.IntakeFault.{IntakeFault}
use Rattle.std.specs.Str.{is_utf8, chars}
use Rattle.toml.proofs.OnLiterals.{toml_on_literals}
use Rattle.mx_intake.specs.Text.{text_of_bytes}

-- what is unfolded to compute the programme of a text
unfoldable pub programmes_on_literals : ⊤
unfolding table_of_text text_of_bytes is_utf8 chars toml_on_literals
programmes_on_literals = tt

-- ── literals ──

-- a limit of one dimension
abbrev of_one : List ℕ → ℤ → Data
of_one key n = table (member key (integer n) no_members)

abbrev hours : ℕ → Data
hours n = of_one (codes "hours") (pos n)

-- a table without a key
abbrev bare : Data
bare = table no_members

-- the task 100H, by what it is done on and its first limit, with more behind them
abbrev task_with : List ℕ → Data → Members → Data
task_with applies first more =
    table (member (codes "id") (string (codes "100H")) (member (codes "applies") (string applies) (member (codes "first") first more)))

abbrev airframe_task : Data → Members → Data
airframe_task = task_with (codes "airframe")

abbrev minutes_alone : ℕ → Limit
minutes_alone n = record { minutes = Some n; cycles = None; days = None }

abbrev no_tolerance : Tolerance
no_tolerance = record { minutes = 0; cycles = 0; days = 0 }

abbrev task_100H : Limit → Option Limit → Tolerance → Task
task_100H first repeat tolerance =
    record { id = codes "100H"; applies = Airframe; first = first; repeat = repeat; tolerance = tolerance; retire = false }

-- ── tasks ──

-- hours are read as minutes, in each of the limits
hundred_hours : task_by_toml (airframe_task (hours 1050) (member (codes "repeat") (hours 100) (member (codes "tolerance") (hours 10) no_members)))
    ≡ Ok (task_100H (minutes_alone 63000) (Some (minutes_alone 6000)) (record { minutes = 600; cycles = 0; days = 0 }))
hundred_hours = refl

done_once : task_by_toml (airframe_task (hours 1050) no_members) ≡ Ok (task_100H (minutes_alone 63000) None no_tolerance)
done_once = refl

each_dimension : task_by_toml (airframe_task (table (member (codes "cycles") (integer (pos 7)) (member (codes "days") (integer (pos 365)) no_members))) no_members)
    ≡ Ok (task_100H (record { minutes = None; cycles = Some 7; days = Some 365 }) None no_tolerance)
each_dimension = refl

of_a_part : task_by_toml (task_with (codes "part:IO360") (hours 2000) no_members)
    ≡ Ok (record { id = codes "100H"; applies = Part (codes "IO360"); first = minutes_alone 120000; repeat = None; tolerance = no_tolerance; retire = false })
of_a_part = refl

retired : task_by_toml (airframe_task (hours 2000) (member (codes "retire") (boolean true) no_members))
    ≡ Ok (record { id = codes "100H"; applies = Airframe; first = minutes_alone 120000; repeat = None; tolerance = no_tolerance; retire = true })
retired = refl

-- a tolerance without a dimension is none
bare_tolerance : task_by_toml (airframe_task (hours 1050) (member (codes "tolerance") bare no_members)) ≡ Ok (task_100H (minutes_alone 63000) None no_tolerance)
bare_tolerance = refl

-- ── a key that is missing ──

no_id : task_by_toml (table (member (codes "applies") (string (codes "airframe")) (member (codes "first") (hours 1) no_members))) ≡ Err 62
no_id = refl

no_first : task_by_toml (table (member (codes "applies") (string (codes "airframe")) (member (codes "id") (string (codes "100H")) no_members))) ≡ Err 62
no_first = refl

-- before a value that can't be read, and a key that is unknown
missing_first : task_by_toml (table (member (codes "id") (integer (pos 1)) (member (codes "note") (integer (pos 1)) no_members))) ≡ Err 62
missing_first = refl

-- ── a value that can't be read ──

no_table : task_by_toml (integer (pos 1)) ≡ Err 63
no_table = refl

no_part : task_by_toml (task_with (codes "part:") (hours 1) no_members) ≡ Err 63
no_part = refl

neither_airframe_nor_part : task_by_toml (task_with (codes "engine") (hours 1) no_members) ≡ Err 63
neither_airframe_nor_part = refl

first_that_is_no_table : task_by_toml (airframe_task (integer (pos 1050)) no_members) ≡ Err 63
first_that_is_no_table = refl

hours_below_none : task_by_toml (airframe_task (of_one (codes "hours") (negsuc 0)) no_members) ≡ Err 63
hours_below_none = refl

days_past_the_numbers : task_by_toml (airframe_task (of_one (codes "days") (pos 4294967296)) no_members) ≡ Err 63
days_past_the_numbers = refl

-- the least number of hours whose minutes are past the numbers, and the one below it
minutes_past_the_numbers : task_by_toml (airframe_task (hours 71582789) no_members) ≡ Err 63
minutes_past_the_numbers = refl

last_of_the_minutes : task_by_toml (airframe_task (hours 71582788) no_members) ≡ Err 65
last_of_the_minutes = refl

retire_as_a_number : task_by_toml (airframe_task (hours 1) (member (codes "retire") (integer (pos 1)) no_members)) ≡ Err 63
retire_as_a_number = refl

-- before a key that is unknown
unread_first : task_by_toml (airframe_task (integer (pos 1)) (member (codes "note") (integer (pos 1)) no_members)) ≡ Err 63
unread_first = refl

-- ── a key that is unknown ──

note_of_a_task : task_by_toml (airframe_task (hours 1) (member (codes "note") (integer (pos 1)) no_members)) ≡ Err 64
note_of_a_task = refl

-- before the shape
note_of_a_limit : task_by_toml (airframe_task (of_one (codes "note") (pos 1)) no_members) ≡ Err 64
note_of_a_limit = refl

note_of_a_tolerance : task_by_toml (airframe_task (hours 1) (member (codes "tolerance") (of_one (codes "note") (pos 1)) no_members)) ≡ Err 64
note_of_a_tolerance = refl

-- ── a shape that no task has ──

bare_first : task_by_toml (airframe_task bare no_members) ≡ Err 65
bare_first = refl

bare_repeat : task_by_toml (airframe_task (hours 1) (member (codes "repeat") bare no_members)) ≡ Err 65
bare_repeat = refl

none_of_the_hours : task_by_toml (airframe_task (hours 0) no_members) ≡ Err 65
none_of_the_hours = refl

retired_again : task_by_toml (airframe_task (hours 1) (member (codes "repeat") (hours 1) (member (codes "retire") (boolean true) no_members))) ≡ Err 65
retired_again = refl

-- ── programmes ──

-- the first revision of the programme of C172, with these tasks
abbrev programme_with : Data → Items → Members → Data
programme_with revision tasks more =
    table (member (codes "kind") (string (codes "C172")) (member (codes "revision") revision (member (codes "task") (array tasks) more)))

abbrev of_tasks : Items → Result (Programme × List Task) IntakeFault
of_tasks tasks = programme_of_table (programme_with (integer (pos 1)) tasks no_members)

-- the task 100H once, as a table and as what it gives
abbrev once : Data
once = airframe_task (hours 1050) no_members

abbrev given_once : Task
given_once = task_100H (minutes_alone 63000) None no_tolerance

one_task : of_tasks (item once no_items) ≡ Ok (record { kind = codes "C172"; revision = 1 }, given_once ∷ [])
one_task = refl

-- three tasks, in their order
abbrev task_of : List ℕ → List ℕ → Data → Members → Data
task_of id applies first more =
    table (member (codes "applies") (string applies) (member (codes "first") first (member (codes "id") (string id) more)))

abbrev days : ℕ → Data
days n = of_one (codes "days") (pos n)

abbrev days_alone : ℕ → Limit
days_alone n = record { minutes = None; cycles = None; days = Some n }

abbrev three_given : Result (Programme × List Task) IntakeFault
three_given =
    Ok (
      record { kind = codes "C172"; revision = 1 },
      task_100H (minutes_alone 63000) (Some (minutes_alone 6000)) (record { minutes = 600; cycles = 0; days = 0 })
          ∷ record { id = codes "ANNUAL"; applies = Airframe; first = days_alone 365; repeat = Some (days_alone 365); tolerance = record { minutes = 0; cycles = 0; days = 30 }; retire = false }
          ∷ record { id = codes "OVH"; applies = Part (codes "IO360"); first = minutes_alone 120000; repeat = Some (minutes_alone 120000); tolerance = no_tolerance; retire = false } ∷ [],
    )

three_tasks : of_tasks (item (task_of (codes "100H") (codes "airframe") (hours 1050) (member (codes "repeat") (hours 100) (member (codes "tolerance") (hours 10) no_members)))
    (item (task_of (codes "ANNUAL") (codes "airframe") (days 365) (member (codes "repeat") (days 365) (member (codes "tolerance") (days 30) no_members)))
    (item (task_of (codes "OVH") (codes "part:IO360") (hours 2000) (member (codes "repeat") (hours 2000) no_members)) no_items)))
    ≡ three_given
three_tasks = refl

no_revision : programme_of_table (table (member (codes "kind") (string (codes "C172")) (member (codes "task") (array (item once no_items)) no_members))) ≡ Err (fault 62 0)
no_revision = refl

revision_as_text : programme_of_table (programme_with (string (codes "1")) (item once no_items) no_members) ≡ Err (fault 63 0)
revision_as_text = refl

tasks_as_a_table : programme_of_table (table (member (codes "kind") (string (codes "C172")) (member (codes "revision") (integer (pos 1)) (member (codes "task") once no_members)))) ≡ Err (fault 63 0)
tasks_as_a_table = refl

note_of_a_programme : programme_of_table (programme_with (integer (pos 1)) (item once no_items) (member (codes "note") (integer (pos 1)) no_members)) ≡ Err (fault 64 0)
note_of_a_programme = refl

revision_none : programme_of_table (programme_with (integer (pos 0)) (item once no_items) no_members) ≡ Err (fault 65 0)
revision_none = refl

revision_past_the_last : programme_of_table (programme_with (integer (pos 1000001)) (item once no_items) no_members) ≡ Err (fault 65 0)
revision_past_the_last = refl

no_tasks : of_tasks no_items ≡ Err (fault 65 0)
no_tasks = refl

-- the fault of the top is found before that of a task
top_first : programme_of_table (programme_with (integer (pos 0)) (item bare no_items) no_members) ≡ Err (fault 65 0)
top_first = refl

second_task : of_tasks (item once (item (airframe_task bare no_members) no_items)) ≡ Err (fault 65 2)
second_task = refl

first_of_two : of_tasks (item (airframe_task bare no_members) (item bare no_items)) ≡ Err (fault 65 1)
first_of_two = refl

task_that_is_no_table : of_tasks (item (integer (pos 1)) no_items) ≡ Err (fault 63 1)
task_that_is_no_table = refl

same_name : of_tasks (item once (item once no_items)) ≡ Err (fault 65 0)
same_name = refl

-- where another entry has a fault, that is told
same_name_and_a_fault : of_tasks (item once (item once (item bare no_items))) ≡ Err (fault 62 3)
same_name_and_a_fault = refl

-- ── whole texts, by their bytes ──

-- the same three tasks, as they are written
three_tasks_written : programme_of_text (codes "kind = \"C172\"\nrevision = 1\n[[task]]\nid = \"100H\"\napplies = \"airframe\"\nfirst = { hours = 1050 }\nrepeat = { hours = 100 }\ntolerance = { hours = 10 }\n[[task]]\nid = \"ANNUAL\"\napplies = \"airframe\"\nfirst = { days = 365 }\nrepeat = { days = 365 }\ntolerance = { days = 30 }\n[[task]]\nid = \"OVH\"\napplies = \"part:IO360\"\nfirst = { hours = 2000 }\nrepeat = { hours = 2000 }\n")
    ≡ three_given
unfolding programmes_on_literals
three_tasks_written = refl

not_utf8 : programme_of_text (255 ∷ []) ≡ Err (fault 61 0)
unfolding programmes_on_literals
not_utf8 = refl

no_document : programme_of_text (codes "kind") ≡ Err (fault 61 0)
unfolding programmes_on_literals
no_document = refl

empty_document : programme_of_text [] ≡ Err (fault 62 0)
unfolding programmes_on_literals
empty_document = refl
