-- The steps that write what layout 2 keeps of one item: its total, or its last bases.
-- Over any rows such a step says what it makes all the same: the table has its rows from before and those that the step
-- holds, and nothing else changes but the point. A row that its key forbids is an error of the store, and nothing is
-- committed. Last bases may come in any order, since a table has none.
use Rattle.std.specs.Prelude.{◌≡◌, ℕ, nat_eq, List, [], ◌∷◌, filter}
use Rattle.sqlite.specs.Order.{Row}
use Rattle.sqlite.specs.Tree.{Trees}
use Rattle.mx_book.specs.commands.Act.{Entry}
use Rattle.mx_base.specs.declared.rows.rows.BaseRow.{BaseRow}
use Rattle.mx_base.specs.declared.rows.rows.TotalRow.{TotalRow}
use Rattle.mx_registers.specs.kept.Bases.{base_rows}
use Rattle.mx_base.specs.declared.point.Point.{Point}
use Rattle.mx_registers.specs.points.Points.{moving}
use Rattle.mx_layout.specs.TableName.{TableName}
use Rattle.mx_layout.specs.kept.Cells.{kept_base2, kept_total2}
use Rattle.mx_layout.specs.kept.Family.{on_top}
use Rattle.mx_moves.specs.Keeping.{point_set}
use Rattle.mx_moves.specs.steps.Rows.{MakesRows}

-- the point is this one, and the total is there with those from before
abbrev pub total_written : TotalRow → Point → TableName → List Row → List Row
total_written row to name old = on_top kept_total2 (row ∷ []) name (point_set to name old)

-- the total was written, the point is that of its item, and nothing else changed
pub record WritesTotal (row : TotalRow) (to : Point) (old new : Trees) : Type 0 where
  pub point : to ≡ moving 3 row.item
  pub made : MakesRows (total_written row to) to old new

-- the point is this one, and the last bases are there with those from before
abbrev pub bases_written : List BaseRow → Point → TableName → List Row → List Row
bases_written rows to name old = on_top kept_base2 rows name (point_set to name old)

-- the last bases were written, the point is that of the item, and nothing else changed
pub record WritesBases (item : ℕ) (rows : List BaseRow) (to : Point) (old new : Trees) : Type 0 where
  pub point : to ≡ moving 4 item
  pub made : MakesRows (bases_written rows to) to old new

-- ── of a book ──

-- the last bases of an item of a book, by its number
abbrev pub bases_of : List Entry → ℕ → List BaseRow
bases_of book item = filter (λ (row : BaseRow). nat_eq row.item item) (base_rows book)
