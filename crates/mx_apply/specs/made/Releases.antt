-- When a task is due, by the programme of a kind.
use Rattle.std.specs.Prelude.{ℕ, List, Option, find}
use Rattle.std.specs.Option.{option_and_then}
use Rattle.mx_base.specs.declared.amounts.Limit.{Limit}
use Rattle.mx_book.specs.commands.Act.{Entry}
use Rattle.mx_book.specs.commands.Same.{same_text}
use Rattle.mx_book.specs.declared.commands.item.Item.{Item}
use Rattle.mx_book.specs.declared.commands.programme.Task.{Task}
use Rattle.mx_book.specs.due.Due.{due_after}
use Rattle.mx_book.specs.Base.{base}
use Rattle.mx_book.specs.Programme.{tasks_in_force}
use Rattle.mx_book.specs.Register.{birth}

-- the task with a name in the programme in force of a kind, where there is a kind
abbrev pub task_by_kind : List Entry → Option (List ℕ) → List ℕ → Option Task
task_by_kind book kind id = option_and_then (find (λ t. same_text t.id id)) (option_and_then (tasks_in_force book) kind)

-- when a task of an item is due, where it is, by the programme in force of a kind
abbrev pub due_by_kind : List Entry → Option (List ℕ) → Item → List ℕ → Option Limit
due_by_kind book kind item id = option_and_then (due_after (base book item id) (birth book item)) (task_by_kind book kind id)
