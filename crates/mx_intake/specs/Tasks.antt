-- The form of a task of a maintenance programme: its keys, and how their values are read.
use Rattle.std.specs.Prelude.{ℕ, ◌*◌, List, [], ◌∷◌, codes, Bool, false, ◌||◌, Option, Some, None, is_some, option_map, option_and_then, unwrap_or, length, drop, nat_eq, Result, Err, if◌then◌else◌}
use Rattle.std.specs.List.{starts_with}
use Rattle.std.specs.Option.{option_map_or}
use Rattle.std.specs.Str.{bytes_eq}
use Rattle.toml.specs.Data.{Data, get, as_bool, as_table}
use Rattle.mx_base.specs.Identifier.{is_graphic}
use Rattle.mx_base.specs.declared.amounts.Limit.{Limit}
use Rattle.mx_base.specs.declared.amounts.Tolerance.{Tolerance}
use Rattle.mx_book.specs.commands.Programme.{task_shape}
use Rattle.mx_book.specs.declared.commands.programme.Applies.{Applies}
use Rattle.mx_book.specs.declared.commands.programme.Applies.TheVariants.{Airframe, Part}
use Rattle.mx_book.specs.declared.commands.programme.Task.{Task}
use Rattle.mx_intake.specs.declared.fault.TheConstants.{BAD_VALUE}
use Rattle.mx_intake.specs.Form.{if_read, by_form}
use Rattle.mx_intake.specs.Keys.{if_small, if_there}
use Rattle.mx_intake.specs.Table.{lacks_key, has_other_key, number_of, text_at_key, name_at_key}
use Rattle.mx_intake.specs.Vocabulary.{identifier_of}

-- ── limits ──

-- the keys of a limit
abbrev pub limit_keys : List (List ℕ)
limit_keys = codes "hours" ∷ codes "cycles" ∷ codes "days" ∷ []

-- the minutes of so many hours, where they are below 2 ^ 32
abbrev pub minutes_of_hours : ℕ → Option ℕ
minutes_of_hours hours = if_small (hours * 60)

-- the minutes that a value states in hours
abbrev pub minutes_of : Data → Option ℕ
minutes_of d = option_and_then minutes_of_hours (number_of d)

-- the limit that a table states: none in a dimension whose key is absent
abbrev pub limit_of_table : Data → Option Limit
limit_of_table d =
    if_read (if_there minutes_of (get (codes "hours") d)) (λ minutes.
    if_read (if_there number_of (get (codes "cycles") d)) (λ cycles.
    if_read (if_there number_of (get (codes "days") d)) (λ days.
    Some (record { minutes = minutes; cycles = cycles; days = days }))))

-- the limit that a value states, which is a table
abbrev pub limit_of : Data → Option Limit
limit_of d = if is_some (as_table d) then limit_of_table d else None

-- the tolerance that is stated as a limit: 0 in each dimension without one
abbrev pub tolerance_of : Option Limit → Tolerance
tolerance_of None = record { minutes = 0; cycles = 0; days = 0 }
tolerance_of (Some l) = record { minutes = unwrap_or l.minutes 0; cycles = unwrap_or l.cycles 0; days = unwrap_or l.days 0 }

-- the limit at a key has a key that no limit has
abbrev pub limit_has_other_key : List ℕ → Data → Bool
limit_has_other_key key d = option_map_or (has_other_key limit_keys) (get key d) false

-- ── what a task is done on ──

-- what stands in a text behind a prefix, where it begins with that
abbrev pub behind : List ℕ → List ℕ → Option (List ℕ)
behind prefix text = if starts_with nat_eq text prefix then Some (drop (length prefix) text) else None

-- the components of the part behind `part:`
abbrev pub part_of_text : List ℕ → Option Applies
part_of_text text = option_map Part (option_and_then (identifier_of is_graphic 16) (behind (codes "part:") text))

-- what a text says that the task is done on
abbrev pub applies_of_text : List ℕ → Option Applies
applies_of_text text = if bytes_eq text (codes "airframe") then Some Airframe else part_of_text text

-- ── tasks ──

-- the keys that a task needs
abbrev pub needed_task_keys : List (List ℕ)
needed_task_keys = codes "id" ∷ codes "applies" ∷ codes "first" ∷ []

-- the keys of a task
abbrev pub task_keys : List (List ℕ)
task_keys = codes "id" ∷ codes "applies" ∷ codes "first" ∷ codes "repeat" ∷ codes "tolerance" ∷ codes "retire" ∷ []

-- a limit of the task has a key that no limit has
abbrev pub has_other_limit_key : Data → Bool
has_other_limit_key d =
    limit_has_other_key (codes "first") d || (limit_has_other_key (codes "repeat") d || limit_has_other_key (codes "tolerance") d)

-- the task that a table states
abbrev pub stated_task : Data → Option Task
stated_task d =
    if_read (name_at_key (codes "id") d) (λ id.
    if_read (option_and_then applies_of_text (text_at_key (codes "applies") d)) (λ applies.
    if_read (option_and_then limit_of (get (codes "first") d)) (λ first.
    if_read (if_there limit_of (get (codes "repeat") d)) (λ repeat.
    if_read (if_there limit_of (get (codes "tolerance") d)) (λ tolerance.
    if_read (if_there as_bool (get (codes "retire") d)) (λ retire.
    Some (record { id = id; applies = applies; first = first; repeat = repeat; tolerance = tolerance_of tolerance; retire = unwrap_or retire false })))))))

-- the task that a table gives by its form
abbrev pub task_form : Data → Result Task ℕ
task_form d =
    by_form task_shape (lacks_key needed_task_keys d) (stated_task d) (has_other_key task_keys d || has_other_limit_key d)

-- the task that a value states, or its fault of the least number
abbrev pub task_by_toml : Data → Result Task ℕ
task_by_toml d = if is_some (as_table d) then task_form d else Err BAD_VALUE
