-- When a task is due on an item: counted from its base, or from the item's birth.
use Rattle.std.specs.Prelude.{ℕ, List, Option, None, if◌then◌else◌}
use Rattle.std.specs.Option.{option_and_then}
use Rattle.mx_base.specs.declared.amounts.Limit.{Limit}
use Rattle.mx_book.specs.commands.Act.{Entry}
use Rattle.mx_book.specs.declared.commands.item.Item.{Item}
use Rattle.mx_book.specs.declared.commands.programme.Task.{Task}
use Rattle.mx_book.specs.due.Due.{due_after}
use Rattle.mx_book.specs.declared.found.Found.{Found}
use Rattle.mx_book.specs.Register.{found_of, birth_in}
use Rattle.mx_book.specs.Programme.{task_in_force, is_done_in}
use Rattle.mx_book.specs.Base.{base}

-- when a task of a programme is due on an item of which this was found, where it applies to it and is due
abbrev pub due_of_found : List Entry → Item → Found → Task → Option Limit
due_of_found book item found t = if is_done_in found t.applies then due_after (base book item t.id) (birth_in found) t else None

-- when a task of a programme is due on an item
abbrev pub due_by : List Entry → Item → Task → Option Limit
due_by book item t = due_of_found book item (found_of book item) t

-- when the task with this name in the programme in force of a kind is due on an item
abbrev pub due : List Entry → Item → List ℕ → List ℕ → Option Limit
due book item kind id = option_and_then (due_by book item) (task_in_force book kind id)
