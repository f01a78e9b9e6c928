-- What is left until a due: negative once it is passed.
use Rattle.std.specs.Prelude.{ℕ, ℤ, pos, ◌-ℤ◌, int_le, Bool, false, ◌||◌, Option}
use Rattle.std.specs.Option.{option_map, option_map_or}
use Rattle.mx_base.specs.declared.amounts.Use.{Use}
use Rattle.mx_base.specs.declared.amounts.Limit.{Limit}
use Rattle.mx_base.specs.declared.amounts.Left.{Left}

-- what is left of a number until a due
abbrev pub left_until : ℕ → ℕ → ℤ
left_until now due = pos due -ℤ pos now

-- what is left at this use and day, in the dimensions that have a due
abbrev pub left_of : Limit → Use → ℕ → Left
left_of due life day = record {
  minutes = option_map (left_until life.minutes) due.minutes;
  cycles = option_map (left_until life.cycles) due.cycles;
  days = option_map (left_until day) due.days;
}

-- there is a due in the dimension, and nothing is left until it
abbrev pub is_reached : Option ℤ → Bool
is_reached left = option_map_or (λ n. int_le n (pos 0)) left false

-- nothing is left in some dimension
abbrev pub is_used_up : Left → Bool
is_used_up left = is_reached left.minutes || (is_reached left.cycles || is_reached left.days)
