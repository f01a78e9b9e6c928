-- How many points there are before one, on the way of a file to layout 3.
use Rattle.std.specs.Prelude.{ℕ, ◌+◌, ◌*◌, ◌-◌, nat_lt, nat_eq, filter, map, if◌then◌else◌}
use Rattle.std.specs.List.{sum}
use Rattle.mx_book.specs.declared.limits.TheConstants.{MOST_ENTRIES}
use Rattle.mx_base.specs.declared.point.Point.{Point}
use Rattle.mx_registers.specs.points.Commits.{layouts}
use Rattle.mx_registers.specs.points.Points.{steps_from}

-- the points of a layout and of the move from there: the one that is settled, and one for each mark of each step
abbrev pub points_of : ℕ → ℕ
points_of layout = 1 + steps_from layout * (MOST_ENTRIES + 1)

-- the points of a move before one with this step and mark
abbrev pub points_in_move : ℕ → ℕ → ℕ
points_in_move step mark = if nat_eq step 0 then 0 else 1 + ((step - 1) * (MOST_ENTRIES + 1) + mark)

-- all points before this one
abbrev pub points_before : Point → ℕ
points_before at = sum (map points_of (filter (λ layout. nat_lt layout at.layout) layouts)) + points_in_move at.step at.mark
