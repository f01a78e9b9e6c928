-- The point that a step leads to.
use Rattle.std.specs.Prelude.{◌+◌, List}
use Rattle.mx_book.specs.commands.Act.{Entry}
use Rattle.mx_base.specs.declared.point.Point.{Point}
use Rattle.mx_registers.specs.points.Points.{next_point_to}

-- the point behind the one that a file of this book is at, in the move from the layout of that point to the next
abbrev pub next_in_move : Point → List Entry → Point
next_in_move at book = next_point_to (at.layout + 1) at book
