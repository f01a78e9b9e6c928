-- When rows, whatever they are, answer as a book does, which is any list of entries here.
use Rattle.std.specs.Prelude.{◌≡◌, ℕ, List, Some, length, true}
use Rattle.std.specs.Option.{option_map}
use Rattle.sqlite.specs.declared.types.Value.TheVariants.{Text}
use Rattle.sqlite.specs.State.{State}
use Rattle.sqlite.specs.Tree.{Trees}
use Rattle.mx_book.specs.commands.Act.{Entry}
use Rattle.mx_book.specs.commands.Shape.{has_shape}
use Rattle.mx_book.specs.declared.commands.item.Item.{Item}
use Rattle.mx_book.specs.Asking.{known_same, task_of}
use Rattle.mx_book.specs.Base.{base}
use Rattle.mx_book.specs.Defect.{defect, extension, is_rectified, open_defects}
use Rattle.mx_book.specs.Judge.{judge, known_from}
use Rattle.mx_book.specs.Life.{clock, life_now}
use Rattle.mx_book.specs.Programme.{is_accomplished, life_ended, next_revision, tasks_or_none}
use Rattle.mx_book.specs.Register.{aircraft, component, has_room_for_aircraft, has_room_for_component, part_at}
use Rattle.mx_book.specs.Span.{is_taken, tail_fitted}
use Rattle.mx_book.specs.declared.limits.TheConstants.{MOST_AIRCRAFT, MOST_COMPONENTS}
use Rattle.mx_book.specs.declared.verdict.Verdict.{Verdict}
use Rattle.mx_layout.specs.declared.fault.Table.TheVariants as table
use Rattle.mx_lists.specs.Fitted.{fitted_on}
use Rattle.mx_lists.specs.Fleet.{all_open, tails}
use Rattle.mx_lists.specs.Inventory.{place_fitted, serials}
use Rattle.mx_layout.specs.kept.Cells.{kept_aircraft, kept_component, kept_entry}
use Rattle.mx_table_rows.specs.chosen.Choices.{backward, has_value, is_any}
use Rattle.mx_row_rules.specs.found.Names.{last_number}
use Rattle.mx_row_rules.specs.found.Said.{aircraft_in, component_in}
use Rattle.mx_lookups.specs.numbers.AnyRows.{Gives, GivesFirst}
use Rattle.mx_lookups.specs.numbers.Given.{AllOpenDefects, BaseOf, ClockOf, DefectOf, ExtensionOf, FittedTo, HasRoom, IsAccomplished, IsRectified, IsRetired, IsTaken, LifeOf, NextRevision, OpenDefects, PartAt, PlaceFitted, Serials, TailFitted, Tails, TaskOf, TasksInForce}
use Rattle.mx_lookups.specs.numbers.Reads.{HasTablesOfRows}
use Rattle.mx_row_judge.specs.known.Known.{KnownAs}

-- whatever the rows answer to a question, it is this: they may answer nothing
abbrev pub Only : {V : Type 0} → (Trees → V → Type 0) → Trees → V → Type 0
Only {V} Is trees answer = (v : V) → Is trees v → v ≡ answer

-- whatever the rows answer to a question of the judge, it is what is so in the book
pub record AnswerAs (trees : Trees) (book : List Entry) : Type 0 where
  -- the number of the last entry is that of all entries
  pub entry_count : Only (GivesFirst kept_entry (Some 1) (backward kept_entry.order) is_any last_number) trees (length book)
  pub room_for_aircraft : Only (HasRoom table.Aircraft MOST_AIRCRAFT) trees (has_room_for_aircraft book)
  pub room_for_component : Only (HasRoom table.Component MOST_COMPONENTS) trees (has_room_for_component book)
  -- of a command of its shape, the number of the entry with its document, and whether that is the same command
  pub known : (command : Entry) → has_shape command ≡ true → Only (KnownAs command) trees (option_map (known_same command) (known_from command.doc 1 book))
  pub aircraft : (tail : List ℕ) → Only (Gives kept_aircraft (has_value 1 (Text tail)) aircraft_in) trees (aircraft book tail)
  pub component : (serial : List ℕ) → Only (Gives kept_component (has_value 1 (Text serial)) component_in) trees (component book serial)
  -- the part that a position takes
  pub part_at : (tail position : List ℕ) → Only (PartAt tail position) trees (part_at book tail position)
  pub is_taken : (tail position : List ℕ) → Only (IsTaken tail position) trees (is_taken book tail position)
  -- the aircraft that a component is fitted to
  pub tail_fitted : (serial : List ℕ) → Only (TailFitted serial) trees (tail_fitted book serial)
  -- whether a task retires an item by a day
  pub is_retired : (kind : List ℕ) (item : Item) (day : ℕ) → Only (IsRetired kind item day) trees (life_ended book kind item day)
  -- of an airframe, it is the earliest take-off of its aircraft
  pub clock : (item : Item) → Only (ClockOf item) trees (clock book item)
  pub next_revision : (kind : List ℕ) → Only (NextRevision kind) trees (next_revision book kind)
  -- a task of the programme in force
  pub task : (kind id : List ℕ) → Only (TaskOf kind id) trees (task_of book kind id)
  pub is_accomplished : (item : Item) (id : List ℕ) → Only (IsAccomplished item id) trees (is_accomplished book item id)
  pub defect : (doc : List ℕ) → Only (DefectOf doc) trees (defect book doc)
  pub is_rectified : (doc : List ℕ) → Only (IsRectified doc) trees (is_rectified book doc)
  pub extension : (doc : List ℕ) → Only (ExtensionOf doc) trees (extension book doc)

-- whatever the rows answer to a question of the judge or of a list, it is what is so in the book
pub record AnswerListsAs (trees : Trees) (book : List Entry) : Type 0 where
  pub judge : AnswerAs trees book
  pub life : (item : Item) → Only (LifeOf item) trees (life_now book item)
  -- the base of the last accomplishment of a task
  pub base : (item : Item) (id : List ℕ) → Only (BaseOf item id) trees (base book item id)
  -- the tasks of the programme in force
  pub tasks : (kind : List ℕ) → Only (TasksInForce kind) trees (tasks_or_none book kind)
  pub fitted : (tail : List ℕ) → Only (FittedTo tail) trees (fitted_on tail book)
  pub open_defects : (tail : List ℕ) → Only (OpenDefects tail) trees (open_defects book tail)
  -- the registrations of all aircraft, and the serial numbers of all components
  pub tails : Only Tails trees (tails book)
  pub serials : Only Serials trees (serials book)
  -- where a component is fitted
  pub place : (serial : List ℕ) → Only (PlaceFitted serial) trees (place_fitted book serial)
  -- the open defects of all aircraft
  pub all_open_defects : Only AllOpenDefects trees (all_open book)

-- a transaction is at the point at which rows are looked up, and they answer as the book does
pub record SpeaksFor (AnswersAs : Trees → List Entry → Type 0) (s : State) (book : List Entry) : Type 0 where
  pub schema : HasTablesOfRows s.now.schema
  pub answers : AnswersAs s.now.trees book

-- the verdict on a command is the one on each book as which the rows answer
abbrev pub VerdictOf : Entry → Trees → Verdict → Type 0
VerdictOf command trees verdict = (book : List Entry) → AnswerAs trees book → verdict ≡ judge book command
