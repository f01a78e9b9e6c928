-- The due list of an aircraft: what is due on its airframe and on what is fitted to it, and its open defects.
use Rattle.std.specs.Prelude.{ℕ, pos, List, ◌++◌, map, Bool, Option, Some, None}
use Rattle.std.specs.List.{filter_map, flat_map}
use Rattle.std.specs.Option.{option_map}
use Rattle.mx_base.specs.declared.amounts.Limit.{Limit}
use Rattle.mx_base.specs.declared.amounts.Use.{Use}
use Rattle.mx_book.specs.commands.Act.{Entry}
use Rattle.mx_book.specs.declared.commands.item.Item.{Item}
use Rattle.mx_book.specs.declared.commands.item.Item.TheVariants.{Airframe, Component}
use Rattle.mx_book.specs.declared.commands.programme.Task.{Task}
use Rattle.mx_book.specs.due.Left.{left_of}
use Rattle.mx_book.specs.due.Status.{status_by, status_of}
use Rattle.mx_book.specs.declared.defects.Defect.{Defect}
use Rattle.mx_book.specs.declared.found.Found.{Found}
use Rattle.mx_book.specs.Register.{aircraft, found_of}
use Rattle.mx_book.specs.Life.{life_now, use_or_none}
use Rattle.mx_book.specs.Programme.{tasks_or_none}
use Rattle.mx_book.specs.Defect.{last_permitted, letter_of, open_defects}
use Rattle.mx_lists.specs.declared.due_row.DueRow.{DueRow}
use Rattle.mx_lists.specs.declared.due_row.DueRow.TheVariants.{Task as TaskRow, Defect as DefectRow}
use Rattle.mx_lists.specs.declared.due_row.DueList.{DueList}
use Rattle.mx_lists.specs.declared.life_list.FittedPart.{FittedPart}
use Rattle.mx_lists.specs.LifeList.{parts}
use Rattle.mx_lists.specs.Dues.{due_of_found}
use Rattle.mx_lists.specs.LimitList.{days_left}
use Rattle.mx_lists.specs.DueRow.{row_before}
use Rattle.mx_lists.specs.Order.{in_order, text_before}

-- the row of a task that is due then, on an item with this life
abbrev pub row_by_due : ℕ → Use → Option (List ℕ × List ℕ) → Task → Limit → DueRow
row_by_due day life place t due = TaskRow (status_of (left_of due life day) t.tolerance) place t.id (left_of due life day)

-- the row of a task of an item that was found so and has this life, where something is due; a component stands in its place, with its position and its serial number
abbrev pub row_with : List Entry → ℕ → Item → Found → Use → Option (List ℕ × List ℕ) → Task → Option DueRow
row_with book day item found life place t = option_map (row_by_due day life place t) (due_of_found book item found t)

-- the rows of an item that was found so and has this life, in the order of these tasks
abbrev pub rows_with : List Entry → ℕ → Item → Found → Use → Option (List ℕ × List ℕ) → List Task → List DueRow
rows_with book day item found life place tasks = filter_map (row_with book day item found life place) tasks

-- one task comes before another: by their names
abbrev pub task_before : Task → Task → Bool
task_before a b = text_before a.id b.id

-- the tasks of the programme in force of a kind by name, none where it has no programme
abbrev pub tasks_by_name : List Entry → List ℕ → List Task
tasks_by_name book kind = in_order task_before (tasks_or_none book kind)

-- the rows of an item, in the order of these tasks
abbrev pub rows_of_item : List Entry → ℕ → List Task → Item → Option (List ℕ × List ℕ) → List DueRow
rows_of_item book day tasks item place = rows_with book day item (found_of book item) (use_or_none (life_now book item)) place tasks

-- the rows of a component in its position
abbrev pub rows_of_part : List Entry → ℕ → List Task → FittedPart → List DueRow
rows_of_part book day tasks p = rows_of_item book day tasks (Component p.serial) (Some (p.position, p.serial))

-- the row of an open defect
abbrev pub defect_row : List Entry → ℕ → Defect → DueRow
defect_row book day d = DefectRow (status_by 0 (days_left book day d)) d.doc (letter_of d.deferral.category) d.deferral.reference (pos (last_permitted book d)) (days_left book day d)

-- the rows by place, where these are the open defects: those of the airframe by task, then those of the components by position and then by task, then those of the open defects in the order of their entries
abbrev pub rows_placed : List Entry → List ℕ → List ℕ → ℕ → List Defect → List DueRow
rows_placed book tail kind day defects =
    rows_of_item book day (tasks_by_name book kind) (Airframe tail) None
    ++ (flat_map (rows_of_part book day (tasks_by_name book kind)) (parts book tail)
    ++ map (defect_row book day) defects)

-- the rows by place, with the defects that are open
abbrev pub rows_by_place : List Entry → List ℕ → List ℕ → ℕ → List DueRow
rows_by_place book tail kind day = rows_placed book tail kind day (open_defects book tail)

-- the rows of an aircraft of a kind: the overdue, then the due, then the others, each by place
abbrev pub due_rows : List Entry → List ℕ → List ℕ → ℕ → List DueRow
due_rows book tail kind day = in_order row_before (rows_by_place book tail kind day)

-- the due list of an aircraft on a day: the life of its airframe, and the rows
abbrev pub due_list : List Entry → List ℕ → ℕ → Option DueList
due_list book tail day =
    option_map (λ a. record { tail = tail; day = day; life = use_or_none (life_now book (Airframe tail)); rows = due_rows book tail a.kind day }) (aircraft book tail)
