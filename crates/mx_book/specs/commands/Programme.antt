-- The shape of a maintenance programme: its revision, and the limits of its tasks.
use Rattle.std.specs.Prelude.{List, length, Bool, true, not, ◌&&◌, ◌||◌, Option, is_some, is_none, nat_eq, nat_le}
use Prim.Native.Nat.{ℕ}
use Rattle.std.specs.List.{list_all}
use Rattle.std.specs.Option.{option_map_or}
use Rattle.mx_base.specs.declared.amounts.Limit.{Limit}
use Rattle.mx_base.specs.declared.amounts.Tolerance.{Tolerance}
use Rattle.mx_book.specs.commands.Bounds.{within, are_distinct}
use Rattle.mx_book.specs.commands.Same.{same_text}
use Rattle.mx_book.specs.declared.commands.programme.Programme.{Programme}
use Rattle.mx_book.specs.declared.commands.programme.Task.{Task}
use Rattle.mx_book.specs.declared.commands.programme_shape.TheConstants.{LAST_REVISION, MOST_TASKS, MOST_LIMIT_MINUTES, MOST_LIMIT_CYCLES, MOST_LIMIT_DAYS}

-- the number, where there is one, is from 1 to most
abbrev pub is_limited : ℕ → Option ℕ → Bool
is_limited most number = option_map_or (within 1 most) number true

-- the limit has some dimension
abbrev pub has_dimension : Limit → Bool
has_dimension l = is_some l.minutes || (is_some l.cycles || is_some l.days)

-- a limit: some dimension, and 1 to 6,000,000 minutes, 1 to 1,000,000 cycles, 1 to 36,500 days in those that it has
abbrev pub limit_shape : Limit → Bool
limit_shape l =
    has_dimension l
    && (is_limited MOST_LIMIT_MINUTES l.minutes && (is_limited MOST_LIMIT_CYCLES l.cycles && is_limited MOST_LIMIT_DAYS l.days))

-- a tolerance: up to 6,000,000 minutes, 1,000,000 cycles and 36,500 days
abbrev pub tolerance_shape : Tolerance → Bool
tolerance_shape t = nat_le t.minutes MOST_LIMIT_MINUTES && (nat_le t.cycles MOST_LIMIT_CYCLES && nat_le t.days MOST_LIMIT_DAYS)

-- there is no tolerance in any dimension
abbrev pub is_without_tolerance : Tolerance → Bool
is_without_tolerance t = nat_eq t.minutes 0 && (nat_eq t.cycles 0 && nat_eq t.days 0)

-- the task has neither repeat nor tolerance
abbrev pub is_done_once : Task → Bool
is_done_once t = is_none t.repeat && is_without_tolerance t.tolerance

-- a task: its limits and its tolerance, and one at which the item is retired is done once
abbrev pub task_shape : Task → Bool
task_shape t =
    limit_shape t.first && (option_map_or limit_shape t.repeat true && (tolerance_shape t.tolerance && (not t.retire || is_done_once t)))

-- the tasks have the same name
abbrev pub same_name_of_task : Task → Task → Bool
same_name_of_task a b = same_text a.id b.id

-- a programme: revision 1 to 1,000,000, and 1 to 500 tasks of distinct names
abbrev pub programme_shape : Programme → List Task → Bool
programme_shape p tasks =
    within 1 LAST_REVISION p.revision
    && (within 1 MOST_TASKS (length tasks) && (list_all task_shape tasks && are_distinct same_name_of_task tasks))
