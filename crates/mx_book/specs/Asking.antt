-- What judging asks of records, where that is not one definition of the book.
use Rattle.std.specs.Prelude.{ℕ, List, Bool, Option, find}
use Rattle.std.specs.Option.{option_map, option_and_then}
use Rattle.mx_book.specs.commands.Act.{Entry}
use Rattle.mx_book.specs.commands.Same.{same_text, same_entry}
use Rattle.mx_book.specs.declared.commands.programme.Task.{Task}
use Rattle.mx_book.specs.Programme.{tasks_in_force}

-- the number of a known entry, and whether the command is the same
abbrev pub known_same : Entry → ℕ × Entry → ℕ × Bool
known_same command known = (known.0, same_entry known.1 command)

-- the task with this name in the programme in force of a kind, where it has a programme
abbrev pub task_of : List Entry → List ℕ → List ℕ → Option (Option Task)
task_of book kind id = option_map (find (λ t. same_text t.id id)) (tasks_in_force book kind)

-- the same of a kind, where there is one
abbrev pub task_by : List Entry → Option (List ℕ) → List ℕ → Option (Option Task)
task_by book kind id = option_and_then (λ k. task_of book k id) kind
