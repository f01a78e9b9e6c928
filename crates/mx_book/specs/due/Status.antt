-- How a task stands, by what is left and what is tolerated.
use Rattle.std.specs.Prelude.{ℕ, ℤ, pos, neg_ℤ, int_lt, int_le, Option, if◌then◌else◌}
use Rattle.std.specs.Option.{option_map_or}
use Rattle.mx_base.specs.declared.amounts.Left.{Left}
use Rattle.mx_base.specs.declared.amounts.Tolerance.{Tolerance}
use Rattle.mx_base.specs.declared.amounts.Status.{Status}
use Rattle.mx_base.specs.declared.amounts.Status.TheVariants.{Ok, Due, Overdue}

-- in one dimension: Ok while something is left, Due from then on as long as the tolerance lasts, Overdue past it
abbrev pub status_by : ℕ → ℤ → Status
status_by tolerance left = if int_lt (pos 0) left then Ok else (if int_le (neg_ℤ (pos tolerance)) left then Due else Overdue)

-- in a dimension that may have no due
abbrev pub status_in : ℕ → Option ℤ → Status
status_in tolerance left = option_map_or (status_by tolerance) left Ok

-- the worse of two
abbrev pub worse : Status → Status → Status
worse Ok b = b
worse Due Ok = Due
worse Due Due = Due
worse Due Overdue = Overdue
worse Overdue b = Overdue

-- the worst of the dimensions
abbrev pub status_of : Left → Tolerance → Status
status_of left tolerance =
    worse (status_in tolerance.minutes left.minutes) (worse (status_in tolerance.cycles left.cycles) (status_in tolerance.days left.days))
