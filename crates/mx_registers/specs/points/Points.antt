-- The points on the way from one layout to the next: how far a move has come, which tables there are, and which point comes next.
use Rattle.std.specs.Prelude.{ℕ, ◌+◌, nat_lt, nat_le, nat_eq, List, map, filter, take, Bool, not, ◌&&◌, ◌||◌, Option, Some, None, if◌then◌else◌}
use Rattle.mx_book.specs.commands.Act.{Entry}
use Rattle.mx_book.specs.Programme.{last_of}
use Rattle.mx_book.specs.declared.limits.TheConstants.{MOST_ENTRIES}
use Rattle.mx_registers.specs.Registers.{component_rows, deferral_rows, sector_rows}
use Rattle.mx_registers.specs.declared.points.points.TheConstants.{NEWEST_LAYOUT}
use Rattle.mx_registers.specs.kept.Items.{items}
use Rattle.mx_base.specs.declared.point.Point.{Point}
use Rattle.mx_base.specs.Settled.{settled}

-- ── points ──

-- how many steps the move from a layout to the next has
abbrev pub steps_from : ℕ → ℕ
steps_from layout = if nat_eq layout 1 then 4 else if nat_eq layout 2 then 2 else 0

-- the point in a step of the move from a layout, which has come up to a mark
abbrev pub moving_from : ℕ → ℕ → ℕ → Point
moving_from layout step mark = record { layout = layout; step = step; mark = mark }

-- the point in a step of the move from layout 1
abbrev pub moving : ℕ → ℕ → Point
moving step mark = moving_from 1 step mark

-- the point is settled at a layout that a move leads from, or in one of the steps of that move, with a mark that an entry can have
abbrev pub is_in_move : Point → Bool
is_in_move at = (nat_lt 0 (steps_from at.layout) && nat_le at.step (steps_from at.layout)) && (nat_le at.mark MOST_ENTRIES && (not (nat_eq at.step 0) || nat_eq at.mark 0))

-- the point is on the way to this layout: in a move from one before it
abbrev pub is_before : ℕ → Point → Bool
is_before newest at = nat_lt at.layout newest && is_in_move at

-- the point is on the way to the newest layout
abbrev pub is_on_way : Point → Bool
is_on_way at = is_before NEWEST_LAYOUT at

-- ── how far a move has come ──

-- a step of the move from a layout to the next, by its number from 1
pub record Step : Type 0 where
  pub layout : ℕ
  pub number : ℕ

-- the step with this number of the move from a layout
abbrev pub step_of : ℕ → ℕ → Step
step_of layout number = record { layout = layout; number = number }

-- the file is past the step
abbrev pub is_past : Point → Step → Bool
is_past at step = nat_lt step.layout at.layout || (nat_eq step.layout at.layout && nat_lt step.number at.step)

-- the file is in the step
abbrev pub is_within_step : Point → Step → Bool
is_within_step at step = nat_eq step.layout at.layout && nat_eq step.number at.step

-- the step has moved what has this number: the file is past it, or in it with a mark that is not less
abbrev pub has_moved : Point → Step → ℕ → Bool
has_moved at step number = is_past at step || (is_within_step at step && nat_le number at.mark)

-- ── the next point ──

-- how many rows or things a commit of a step moves at most
abbrev pub size_of : ℕ → ℕ
size_of step = if nat_eq step 1 then 64 else 1

-- the numbers that a step of the move from a layout moves by, in their order: those of the sectors or of the deferrals, of the components, or of all items
abbrev pub numbers_of : ℕ → ℕ → List Entry → List ℕ
numbers_of layout step book = if nat_eq step 1 then (if nat_eq layout 1 then map (λ row. row.seq) (sector_rows book) else map (λ row. row.seq) (deferral_rows book)) else if nat_eq layout 1 && nat_eq step 2 then map (λ row. row.seq) (component_rows book) else map (λ item. item.0) (items book)

-- the numbers that a step has yet to move at a mark
abbrev pub numbers_left : ℕ → ℕ → ℕ → List Entry → List ℕ
numbers_left layout step mark book = filter (λ number. not (nat_le number mark)) (numbers_of layout step book)

-- the mark up to which the next commit of a step goes, where something is left
abbrev pub next_mark : Point → List Entry → Option ℕ
next_mark at book = last_of (take (size_of at.step) (numbers_left at.layout at.step at.mark book))

-- the point behind one in a step: at a mark up to which the commit goes, or else in the next step, and behind the last one settled at the next layout
abbrev pub on_to : Point → Option ℕ → Point
on_to at (Some mark) = moving_from at.layout at.step mark
on_to at None = if nat_lt at.step (steps_from at.layout) then moving_from at.layout (at.step + 1) 0 else settled (at.layout + 1)

-- the point behind one on the way to this layout, where its step goes on to a mark, or has nothing left to move; one that is not on the way stays as it is
abbrev pub point_after_to : ℕ → Point → Option ℕ → Point
point_after_to newest at mark = if is_before newest at then (if nat_eq at.step 0 then moving_from at.layout 1 0 else on_to at mark) else at

-- the same on the way to the newest layout
abbrev pub point_after : Point → Option ℕ → Point
point_after at mark = point_after_to NEWEST_LAYOUT at mark

-- the point behind the one that a file of this book is at, on the way to this layout
abbrev pub next_point_to : ℕ → Point → List Entry → Point
next_point_to newest at book = point_after_to newest at (next_mark at book)

-- the same on the way to the newest layout
abbrev pub next_point : Point → List Entry → Point
next_point at book = next_point_to NEWEST_LAYOUT at book
