-- The points at which no move has begun.
use Rattle.std.specs.Prelude.{ℕ}
use Rattle.mx_base.specs.declared.point.Point.{Point}

-- the point of a file that has a layout, where no move has begun
abbrev pub settled : ℕ → Point
settled layout = record { layout = layout; step = 0; mark = 0 }
