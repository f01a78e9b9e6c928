-- The step that writes the accomplishments of one item in place of its last bases.
-- Neither table is read: what comes is handed in by whoever knows the book, in any order, and what goes is told by the
-- item alone. Over any rows the table has its accomplishments from before and those that the step holds, and last bases of
-- no other item go.
use Rattle.std.specs.Prelude.{◌≡◌, ℕ, pos, nat_eq, Bool, List, filter}
use Rattle.sqlite.specs.declared.types.Value.TheVariants.{Int}
use Rattle.sqlite.specs.Order.{Row}
use Rattle.sqlite.specs.Tree.{Trees}
use Rattle.mx_book.specs.commands.Act.{Entry}
use Rattle.mx_base.specs.declared.point.Point.{Point}
use Rattle.mx_base.specs.declared.rows.rows.DoneRow.{DoneRow}
use Rattle.mx_registers.specs.late.Done.{done_rows}
use Rattle.mx_registers.specs.points.Points.{moving_from}
use Rattle.mx_layout.specs.TableName.{TableName}
use Rattle.mx_layout.specs.kept.Cells.{kept_base2, kept_done3}
use Rattle.mx_layout.specs.kept.Family.{on_top}
use Rattle.mx_table_rows.specs.chosen.Choices.{has_value}
use Rattle.mx_moves.specs.Changes.{less}
use Rattle.mx_moves.specs.Keeping.{point_set}
use Rattle.mx_moves.specs.steps.Rows.{MakesRows}

-- the row is of the item with this number, in the first column
abbrev pub is_of_item : ℕ → Row → Bool
is_of_item item = has_value 0 (Int (pos item))

-- the point is this one, the accomplishments are there with those from before, and the last bases of the item with the mark's number are gone
abbrev pub accomplishments_written : List DoneRow → Point → TableName → List Row → List Row
accomplishments_written rows to name old = less kept_base2 (is_of_item to.mark) name (on_top kept_done3 rows name (point_set to name old))

-- the accomplishments were written, the last bases of the item are gone, the point is that of the item, and nothing else changed
pub record WritesAccomplishments (item : ℕ) (rows : List DoneRow) (to : Point) (old new : Trees) : Type 0 where
  pub point : to ≡ moving_from 2 2 item
  pub made : MakesRows (accomplishments_written rows to) to old new

-- ── of a book ──

-- the accomplishments of an item of a book, by its number
abbrev pub accomplishments_of : List Entry → ℕ → List DoneRow
accomplishments_of book item = filter (λ (row : DoneRow). nat_eq row.item item) (done_rows book)
