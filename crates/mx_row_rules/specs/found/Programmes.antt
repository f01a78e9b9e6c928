-- What the rows of programmes and of their tasks that were found say.
use Rattle.std.specs.Prelude.{ℕ, ◌+◌, List, Bool, ◌&&◌, Option, filter, find, nat_eq}
use Rattle.std.specs.List.{list_any}
use Rattle.std.specs.Option.{option_eq, option_map, option_map_or}
use Rattle.mx_base.specs.declared.amounts.Use.{Use}
use Rattle.mx_book.specs.commands.Act.{Entry}
use Rattle.mx_book.specs.commands.Same.{same_text}
use Rattle.mx_book.specs.declared.commands.programme.Task.{Task}
use Rattle.mx_book.specs.due.Due.{first_due}
use Rattle.mx_book.specs.due.Left.{left_of, is_used_up}
use Rattle.mx_book.specs.Programme.{last_of}
use Rattle.mx_registers.specs.Merge.{task_said}
use Rattle.mx_registers.specs.Registers.{programme_rows, task_rows}
use Rattle.mx_base.specs.declared.rows.rows.ProgrammeRow.{ProgrammeRow}
use Rattle.mx_base.specs.declared.rows.rows.TaskRow.{TaskRow}

-- the rows of the programmes of a kind
abbrev pub programmes_of : List ℕ → List Entry → List ProgrammeRow
programmes_of kind book = filter (λ row. same_text row.kind kind) (programme_rows book)

-- the rows of the tasks that the entry with a number loads
abbrev pub tasks_with : ℕ → List Entry → List TaskRow
tasks_with n book = filter (λ row. nat_eq row.seq n) (task_rows book)

-- the number of the last of these programmes
abbrev pub programme_number : List ProgrammeRow → Option ℕ
programme_number rows = option_map (λ row. row.seq) (last_of rows)

-- one more than the revision of the last of these programmes, or 1 without one
abbrev pub revision_after : List ProgrammeRow → ℕ
revision_after rows = option_map_or (λ row. row.revision + 1) (last_of rows) 1

-- the task with this name, by the rows of a programme's tasks
abbrev pub task_in : List TaskRow → List ℕ → Option Task
task_in rows id = option_map task_said (find (λ row. same_text row.id id) rows)

-- the row of a task is done on this part, or on airframes where none is named, and with this birth, this life and on this day nothing is left until it retires the item
abbrev pub retires : Option (List ℕ) → ℕ → Use → ℕ → TaskRow → Bool
retires part birth life day row =
    row.retire && (option_eq same_text row.part part && is_used_up (left_of (first_due birth (task_said row)) life day))

-- one of these tasks retires the item
abbrev pub is_retired_in : Option (List ℕ) → ℕ → Use → ℕ → List TaskRow → Bool
is_retired_in part birth life day rows = list_any (retires part birth life day) rows
