-- The maintenance programme of a text, with its tasks.
use Rattle.std.specs.Prelude.{ℕ, ◌+◌, List, [], ◌∷◌, codes, Bool, ◌&&◌, Option, Some, option_map, Result, Ok, Err, if◌then◌else◌}
use Rattle.toml.specs.Data.{Data, table, Items, no_items, item}
use Rattle.toml.specs.Parse.{parse_document}
use Rattle.mx_book.specs.commands.Programme.{same_name_of_task}
use Rattle.mx_book.specs.commands.Bounds.{within, are_distinct}
use Rattle.mx_book.specs.declared.commands.programme.Programme.{Programme}
use Rattle.mx_book.specs.declared.commands.programme.Task.{Task}
use Rattle.mx_book.specs.declared.commands.programme_shape.TheConstants.{LAST_REVISION, MOST_TASKS}
use Rattle.mx_intake.specs.declared.fault.IntakeFault.{IntakeFault}
use Rattle.mx_intake.specs.declared.fault.TheConstants.{BAD_SHAPE}
use Rattle.mx_intake.specs.Fault.{fault}
use Rattle.mx_intake.specs.Form.{if_read, by_form}
use Rattle.mx_intake.specs.Sequence.{given_before}
use Rattle.mx_intake.specs.Table.{lacks_key, has_other_key, number_at_key, name_at_key, list_at_key, items_len}
use Rattle.mx_intake.specs.Tasks.{task_by_toml}
use Rattle.mx_intake.specs.Text.{text_of_bytes, reading_of}

-- ── the top ──

-- the keys of a programme
abbrev pub programme_keys : List (List ℕ)
programme_keys = codes "kind" ∷ codes "revision" ∷ codes "task" ∷ []

-- the programme that a table states, and the values that are its tasks
abbrev pub stated_programme : Data → Option (Programme × Items)
stated_programme d =
    if_read (name_at_key (codes "kind") d) (λ kind.
    if_read (number_at_key (codes "revision") d) (λ revision.
    if_read (list_at_key (codes "task") d) (λ tasks.
    Some (record { kind = kind; revision = revision }, tasks))))

-- revision 1 to 1,000,000, and 1 to 500 tasks
abbrev pub top_shape : Programme × Items → Bool
top_shape top = within 1 LAST_REVISION top.0.revision && within 1 MOST_TASKS (items_len top.1)

-- the programme that a table gives by its form, and the values that are its tasks
abbrev pub top_by_toml : Data → Result (Programme × Items) ℕ
top_by_toml d = by_form top_shape (lacks_key programme_keys d) (stated_programme d) (has_other_key programme_keys d)

-- ── its tasks ──

-- the tasks of the values, the first of which is entry `place`, or the fault of the first faulty one
abbrev pub tasks_from : ℕ → Items → Result (List Task) IntakeFault
tasks_from place no_items = Ok []
tasks_from place (item d ds) = given_before place (task_by_toml d) (tasks_from (place + 1) ds)

-- the programme with its tasks, if they are read and no two have the same name
abbrev pub if_distinct : Programme → Result (List Task) IntakeFault → Result (Programme × List Task) IntakeFault
if_distinct programme (Ok tasks) = if are_distinct same_name_of_task tasks then Ok (programme, tasks) else Err (fault BAD_SHAPE 0)
if_distinct programme (Err f) = Err f

-- ── the whole ──

-- the programme of a top, with its tasks, or the fault of the top
abbrev pub programme_if_top : Result (Programme × Items) ℕ → Result (Programme × List Task) IntakeFault
programme_if_top (Ok top) = if_distinct top.0 (tasks_from 1 top.1)
programme_if_top (Err which) = Err (fault which 0)

-- the programme of a table, with its tasks
abbrev pub programme_of_table : Data → Result (Programme × List Task) IntakeFault
programme_of_table d = programme_if_top (top_by_toml d)

-- the table that a text reads as
abbrev pub table_of_document : List ℕ → Option Data
table_of_document text = option_map table (parse_document text)

-- the table of a text
unfoldable pub table_of_text : List ℕ → Result Data IntakeFault
table_of_text bytes = reading_of table_of_document (text_of_bytes bytes)

-- the programme of a table, if there is one
abbrev pub programme_if_table : Result Data IntakeFault → Result (Programme × List Task) IntakeFault
programme_if_table (Ok d) = programme_of_table d
programme_if_table (Err f) = Err f

-- the programme of a text with its tasks, or its fault
abbrev pub programme_of_text : List ℕ → Result (Programme × List Task) IntakeFault
programme_of_text bytes = programme_if_table (table_of_text bytes)
