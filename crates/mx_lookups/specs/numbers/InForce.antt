-- The tasks of the programme in force, as rows, and what an item is to the tasks that retire it.
use Rattle.std.specs.Prelude.{ℕ, List, Option, Some, None}
use Rattle.std.specs.Option.{option_map}
use Rattle.mx_book.specs.commands.Act.{Entry}
use Rattle.mx_book.specs.declared.found.Found.{Found}
use Rattle.mx_book.specs.declared.found.Found.TheVariants as founds
use Rattle.mx_base.specs.declared.rows.rows.TaskRow.{TaskRow}
use Rattle.mx_row_rules.specs.found.Programmes.{programme_number, programmes_of, tasks_with}

-- the rows of the tasks of the last programme of a kind, where there is one
abbrev pub rows_in_force : List ℕ → List Entry → Option (List TaskRow)
rows_in_force kind book = option_map (λ n. tasks_with n book) (programme_number (programmes_of kind book))

-- the part of what was found, none of an airframe, and the day on which it was built
abbrev pub born_as : Found → Option (Option (List ℕ) × ℕ)
born_as (founds.Airframe found) = option_map (λ a. (None, a.birth)) found
born_as (founds.Component found) = option_map (λ c. (Some c.part, c.birth)) found
