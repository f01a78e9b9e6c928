-- How many commits a move takes.
use Rattle.std.specs.Prelude.{ℕ, zero, suc, ◌+◌, ◌*◌, ◌-◌, ◌/◌, nat_lt, nat_le, nat_eq, List, [], ◌∷◌, length, filter, map, ◌&&◌, if◌then◌else◌}
use Rattle.std.specs.List.{sum}
use Rattle.mx_book.specs.commands.Act.{Entry}
use Rattle.mx_registers.specs.Registers.{aircraft_rows, component_rows, deferral_rows, sector_rows}
use Rattle.mx_registers.specs.declared.points.points.TheConstants.{NEWEST_LAYOUT}
use Rattle.mx_base.specs.declared.point.Point.{Point}
use Rattle.mx_registers.specs.points.Points.{is_before, next_point_to, numbers_left, size_of, steps_from}

-- the point of a file of this book that is so many commits behind one, on the way to this layout
abbrev pub point_behind_to : ℕ → ℕ → Point → List Entry → Point
point_behind_to newest zero at book = at
point_behind_to newest (suc commits) at book = point_behind_to newest commits (next_point_to newest at book) book

-- the same on the way to the newest layout
abbrev pub point_behind : ℕ → Point → List Entry → Point
point_behind commits at book = point_behind_to NEWEST_LAYOUT commits at book

-- how many times so many go into a number, rounded up
abbrev pub rounds : ℕ → ℕ → ℕ
rounds size number = (number + (size - 1)) / size

-- the commits of a step from a mark on: those that move what is left, and the one that ends the step
abbrev pub step_commits : ℕ → ℕ → ℕ → List Entry → ℕ
step_commits layout step mark book = rounds (size_of step) (length (numbers_left layout step mark book)) + 1

-- the steps of a move by their numbers, of which a move has the first
abbrev pub steps : List ℕ
steps = 1 ∷ 2 ∷ 3 ∷ 4 ∷ []

-- the layouts that a move leads from
abbrev pub layouts : List ℕ
layouts = 1 ∷ 2 ∷ []

-- the commits of the steps of a move that are behind this one
abbrev pub later_commits : ℕ → ℕ → List Entry → ℕ
later_commits layout step book = sum (map (λ later. step_commits layout later 0 book) (filter (λ later. nat_lt step later && nat_le later (steps_from layout)) steps))

-- the commits of a whole move from a layout: the one that begins it, and those of its steps
abbrev pub move_commits : ℕ → List Entry → ℕ
move_commits layout book = 1 + later_commits layout 0 book

-- the commits of the moves behind that from a layout, up to the one to the newest
abbrev pub later_moves : ℕ → ℕ → List Entry → ℕ
later_moves newest layout book = sum (map (λ later. move_commits later book) (filter (λ later. nat_lt layout later && nat_lt later newest) layouts))

-- the commits from a point on until a file of this book has this layout
abbrev pub commits_to : ℕ → Point → List Entry → ℕ
commits_to newest at book = if is_before newest at then ((if nat_eq at.step 0 then 1 else step_commits at.layout at.step at.mark book) + later_commits at.layout at.step book) + later_moves newest at.layout book else 0

-- the commits from a point on until it has the newest layout
abbrev pub commits_left : Point → List Entry → ℕ
commits_left at book = commits_to NEWEST_LAYOUT at book

-- the commits from layout 1 to the next: one for each 64 sectors, two for each aircraft and three for each component, and five more
abbrev pub commits_of_move : List Entry → ℕ
commits_of_move book = 5 + rounds 64 (length (sector_rows book)) + 2 * length (aircraft_rows book) + 3 * length (component_rows book)

-- the commits from layout 2 to the next: one for each 64 deferrals, one for each aircraft and each component, and three more
abbrev pub commits_of_second_move : List Entry → ℕ
commits_of_second_move book = 3 + rounds 64 (length (deferral_rows book)) + length (aircraft_rows book) + length (component_rows book)

-- the commits from layout 1 to layout 3
abbrev pub commits_of_both_moves : List Entry → ℕ
commits_of_both_moves book = commits_of_move book + commits_of_second_move book
