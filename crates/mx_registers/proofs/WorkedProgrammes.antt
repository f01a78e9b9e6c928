-- Worked registers of programmes and openings: their rows, and the book that rows give.
use Rattle.std.proofs.Common.{refl, ◌≡◌, ℕ, List, [], ◌∷◌, true, false, Some, None}
use Rattle.std.specs.Prelude.{codes, map, option_map}
use Rattle.std.specs.List.{list_all}
use Rattle.mx_base.specs.declared.amounts.Limit.{Limit}
use Rattle.mx_base.specs.declared.amounts.Tolerance.{Tolerance}
use Rattle.mx_book.specs.commands.Act.{Act, Entry, Loaded, Opened}
use Rattle.mx_book.specs.commands.Shape.{has_shape}
use Rattle.mx_book.specs.declared.commands.item.Item.{Item}
use Rattle.mx_book.specs.declared.commands.item.Item.TheVariants as items
use Rattle.mx_book.specs.declared.commands.programme.Applies.TheVariants as applies
use Rattle.mx_book.specs.declared.commands.programme.Task.{Task}
use Rattle.mx_book.specs.Book.{is_book}
use Rattle.mx_book.proofs.Worked.{used, abcd, logged}
use Rattle.mx_book.proofs.WorkedFittings.{engine, propeller, e1, engine_with, first_aircraft}
use Rattle.mx_base.specs.declared.rows.rows.EntryKind.TheVariants as kinds
use Rattle.mx_base.specs.declared.rows.rows.EntryRow.{EntryRow}
use Rattle.mx_base.specs.declared.rows.rows.ProgrammeRow.{ProgrammeRow}
use Rattle.mx_base.specs.declared.rows.rows.TaskRow.{TaskRow}
use Rattle.mx_base.specs.declared.rows.rows.OpeningRow.{OpeningRow}
use Rattle.mx_base.specs.rows.Rows.{task_key}
use Rattle.mx_registers.specs.Names.{seq_of_item, item_at}
use Rattle.mx_registers.specs.Registers.{no_limit, entry_rows, task_rows}
use Rattle.mx_registers.specs.Merge.{Rest, task_said, take_tasks, merged}
use Rattle.mx_registers.proofs.MergeLemmas.{all_later}
use Rattle.mx_registers.proofs.Worked.{entry, first_aircraft_row, place, component_with, no_rows}

-- ── the rows of a book: an aircraft, an engine, two revisions of a programme, and an opening of each item ──

abbrev pub c172 : List ℕ
c172 = codes "C172"

abbrev minutes_alone : ℕ → Limit
minutes_alone n = record { minutes = Some n; cycles = None; days = None }

abbrev cycles_alone : ℕ → Limit
cycles_alone n = record { minutes = None; cycles = Some n; days = None }

abbrev tolerated : ℕ → Tolerance
tolerated minutes = record { minutes = minutes; cycles = 0; days = 0 }

-- the inspection of the airframe every 100 hours, which may be done 10 hours late
abbrev pub hundred_hours : Task
hundred_hours = record { id = codes "100H"; applies = applies.Airframe; first = minutes_alone 63000; repeat = Some (minutes_alone 6000); tolerance = tolerated 600; retire = false }

-- work on an engine that is done once
abbrev pub once : Task
once = record { id = codes "SB7"; applies = applies.Part (codes "IO360"); first = record { minutes = Some 120000; cycles = None; days = Some 3650 }; repeat = None; tolerance = tolerated 0; retire = false }

-- a disc that is retired at 100 cycles
abbrev disc : Task
disc = record { id = codes "DISC"; applies = applies.Part (codes "LLP1"); first = cycles_alone 100; repeat = None; tolerance = tolerated 0; retire = true }

abbrev pub loaded : ℕ → List Task → Act
loaded revision tasks = Loaded (record { kind = c172; revision = revision }) tasks

abbrev opened : Item → List ℕ → ℕ → ℕ → ℕ → Act
opened item task minutes cycles day = Opened (record { item = item; kind = c172; task = task; use_then = used minutes cycles; day = day })

abbrev programmes : List Entry
programmes = first_aircraft ∷ logged (codes "C1") (engine_with e1) ∷ logged (codes "P1") (loaded 1 (hundred_hours ∷ once ∷ []))
    ∷ logged (codes "O1") (opened (items.Airframe abcd) (codes "100H") 57000 760 19509)
    ∷ logged (codes "O2") (opened (items.Component e1) (codes "SB7") 900 90 19000) ∷ logged (codes "P2") (loaded 2 (disc ∷ [])) ∷ []

shapes : list_all has_shape programmes ≡ true
shapes = refl

accepted : is_book programmes ≡ true
accepted = refl

abbrev entries : List EntryRow
entries = entry 1 (codes "A1") kinds.AddAircraft ∷ entry 2 (codes "C1") kinds.AddComponent ∷ entry 3 (codes "P1") kinds.LoadProgramme
    ∷ entry 4 (codes "O1") kinds.Opening ∷ entry 5 (codes "O2") kinds.Opening ∷ entry 6 (codes "P2") kinds.LoadProgramme ∷ []

abbrev pub programme : ℕ → ℕ → ProgrammeRow
programme seq revision = record { seq = seq; kind = c172; revision = revision }

abbrev pub hundred_hours_row : TaskRow
hundred_hours_row = record { seq = 3; line = 1; id = codes "100H"; part = None; retire = false; first = minutes_alone 63000; repeat = minutes_alone 6000; tolerance = tolerated 600 }

abbrev pub once_row : TaskRow
once_row = record { seq = 3; line = 2; id = codes "SB7"; part = Some (codes "IO360"); retire = false; first = record { minutes = Some 120000; cycles = None; days = Some 3650 }; repeat = no_limit; tolerance = tolerated 0 }

abbrev disc_row : TaskRow
disc_row = record { seq = 6; line = 1; id = codes "DISC"; part = Some (codes "LLP1"); retire = true; first = cycles_alone 100; repeat = no_limit; tolerance = tolerated 0 }

-- the opening of the airframe, with this number for its item
abbrev airframe_opening : ℕ → OpeningRow
airframe_opening item = record { seq = 4; item = item; kind = c172; task = codes "100H"; minutes = 57000; cycles = 760; day = 19509 }

abbrev engine_opening : OpeningRow
engine_opening = record { seq = 5; item = 2; kind = c172; task = codes "SB7"; minutes = 900; cycles = 90; day = 19000 }

abbrev rows : Rest
rows = record no_rows {
  aircraft = first_aircraft_row ∷ [];
  places = place 1 1 engine (codes "IO360") ∷ place 1 2 propeller (codes "HC2") ∷ [];
  components = component_with 2 e1 ∷ [];
  programmes = programme 3 1 ∷ programme 6 2 ∷ [];
  tasks = hundred_hours_row ∷ once_row ∷ disc_row ∷ [];
  openings = airframe_opening 1 ∷ engine_opening ∷ [];
}

entries_listed : entry_rows programmes ≡ entries
entries_listed = refl

-- the tasks of each revision have their lines from 1, and each opening has the number of the entry that added the aircraft of its airframe, or its component
registers_listed : all_later [] programmes ≡ rows
registers_listed = refl

-- ── items and numbers ──

numbers_of_items : map (seq_of_item programmes) (items.Airframe abcd ∷ items.Component e1 ∷ items.Component abcd ∷ items.Airframe e1 ∷ []) ≡ Some 1 ∷ Some 2 ∷ None ∷ None ∷ []
numbers_of_items = refl

-- an entry that adds neither, and numbers that no entry has
items_of_numbers : map (item_at programmes) (1 ∷ 2 ∷ 3 ∷ 4 ∷ 0 ∷ 7 ∷ []) ≡ Some (items.Airframe abcd) ∷ Some (items.Component e1) ∷ None ∷ None ∷ None ∷ None ∷ []
items_of_numbers = refl

-- ── what rows say ──

-- a repeat in no dimension is none, and one in some dimension is itself
tasks_of_rows : map task_said rows.tasks ≡ hundred_hours ∷ once ∷ disc ∷ []
tasks_of_rows = refl

-- the tasks of another entry, and those from another line on, are not taken
tasks_of_entry : take_tasks 3 rows.tasks ≡ (hundred_hours ∷ once ∷ [], disc_row ∷ [])
tasks_of_entry = refl

no_tasks_of_entry : take_tasks 6 rows.tasks ≡ ([], rows.tasks)
no_tasks_of_entry = refl

no_task_from_two : take_tasks 3 (once_row ∷ []) ≡ ([], once_row ∷ [])
no_task_from_two = refl

-- ── the book that rows give ──

given_back : merged [] entries rows ≡ Some programmes
given_back = refl

-- an opening that names an entry which adds no item, the other item, or none
other_item : map (λ item. merged [] entries (record rows { openings = airframe_opening item ∷ engine_opening ∷ [] })) (3 ∷ 2 ∷ 0 ∷ []) ≡ None ∷ None ∷ None ∷ []
other_item = refl

-- a task on another line than the next, and a programme without a task
task_on_third_line : merged [] entries (record rows { tasks = hundred_hours_row ∷ record once_row { line = 3 } ∷ disc_row ∷ [] }) ≡ None
task_on_third_line = refl

programme_without_task : merged [] entries (record rows { tasks = hundred_hours_row ∷ once_row ∷ [] }) ≡ None
programme_without_task = refl

-- a programme or an opening less is of no book
rows_less : map (merged [] entries) (record rows { programmes = programme 3 1 ∷ [] } ∷ record rows { openings = airframe_opening 1 ∷ [] } ∷ []) ≡ None ∷ None ∷ []
rows_less = refl

-- a task more gives another book, whose programme has it
task_more : option_map task_rows (merged [] entries (record rows { tasks = hundred_hours_row ∷ once_row ∷ disc_row ∷ record once_row { seq = 6 } ∷ [] }))
    ≡ Some (hundred_hours_row ∷ once_row ∷ disc_row ∷ record once_row { seq = 6 } ∷ [])
task_more = refl

-- a row that no entry takes is of no book
programme_left : merged [] [] (record no_rows { programmes = programme 1 1 ∷ [] }) ≡ None
programme_left = refl

task_left : merged [] [] (record no_rows { tasks = disc_row ∷ [] }) ≡ None
task_left = refl

opening_left : merged [] [] (record no_rows { openings = engine_opening ∷ [] }) ≡ None
opening_left = refl

second_task_key : task_key once_row ≡ 12884901890
second_task_key = refl
