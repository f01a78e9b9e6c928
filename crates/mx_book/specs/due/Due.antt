-- When a task is due: its limits, counted from a base.
use Rattle.std.specs.Prelude.{ℕ, ◌+◌, ◌≤◌, min, Option, Some, None, if◌then◌else◌}
use Rattle.std.specs.Option.{option_map, option_map_or}
use Rattle.mx_base.specs.Calendar.{last_day}
use Rattle.mx_base.specs.declared.amounts.Use.{Use}
use Rattle.mx_base.specs.declared.amounts.Limit.{Limit}
use Rattle.mx_base.specs.declared.amounts.Base.{Base}
use Rattle.mx_book.specs.declared.commands.programme.Task.{Task}

-- a life that an item may have: up to 1,540,000,000 minutes and 51,000,000 cycles
pub record IsLife (life : Use) : Type 0 where
  pub minutes : life.minutes ≤ 1540000000
  pub cycles : life.cycles ≤ 51000000

-- a base that an item may have: within its life and the calendar
pub record IsBase (base : Base) : Type 0 where
  pub minutes : base.minutes ≤ 1540000000
  pub cycles : base.cycles ≤ 51000000
  pub day : base.day ≤ last_day

-- the base of what was never accomplished: no minutes, no cycles, and the day of birth
abbrev pub base_at_birth : ℕ → Base
base_at_birth birth = record { minutes = 0; cycles = 0; day = birth }

-- a limit counted from a base, in the dimensions that it has
abbrev pub counted_from : Base → Limit → Limit
counted_from base limit = record {
  minutes = option_map (λ n. base.minutes + n) limit.minutes;
  cycles = option_map (λ n. base.cycles + n) limit.cycles;
  days = option_map (λ n. base.day + n) limit.days;
}

-- when a task is due for the first time of an item that was born on a day
abbrev pub first_due : ℕ → Task → Limit
first_due birth task = counted_from (base_at_birth birth) task.first

-- when a task is due again behind an accomplishment with this base, where it is: one at which the item is retired stays due at its first limit
abbrev pub next_due : Base → ℕ → Task → Option Limit
next_due base birth task = if task.retire then Some (first_due birth task) else option_map (counted_from base) task.repeat

-- when a task is due, where it is, of an item that was born on a day, by the base of the last accomplishment, where there is one
abbrev pub due_after : Option Base → ℕ → Task → Option Limit
due_after None birth task = Some (first_due birth task)
due_after (Some base) birth task = next_due base birth task

-- the value, or the due where that is less
abbrev pub lesser : ℕ → Option ℕ → ℕ
lesser value due = option_map_or (min value) due value

-- the base of work that was done at this use and day, where it was due at these: in each dimension what was reached first
abbrev pub base_by_due : Use → ℕ → Limit → Base
base_by_due life day due = record { minutes = lesser life.minutes due.minutes; cycles = lesser life.cycles due.cycles; day = lesser day due.days }

-- the base of work that was done at this use and day: what was reached where nothing was due
abbrev pub base_done : Use → ℕ → Option Limit → Base
base_done life day due = option_map_or (base_by_due life day) due (record { minutes = life.minutes; cycles = life.cycles; day = day })
