-- The step that moves sectors, at most 64 a commit.
-- Sectors are read by their place, the first 64, and deleted by their number, up to that of the last. That these are
-- the same rows is a fact of its own (`gone`), had of any rows since the rowids of each table rise.
use Rattle.std.specs.Prelude.{◌≡◌, ◌⊎◌, ℕ, pos, Bool, true, false, List, Some, map, filter, All, Contains}
use Rattle.std.specs.List.{list_all}
use Rattle.sqlite.specs.declared.types.Value.TheVariants.{Int}
use Rattle.sqlite.specs.Order.{Row}
use Rattle.sqlite.specs.Tree.{Trees}
use Rattle.mx_base.specs.declared.rows.rows.SectorRow.{SectorRow}
use Rattle.mx_base.specs.rows.Rows.{FitsSector}
use Rattle.mx_base.specs.declared.point.Point.{Point}
use Rattle.mx_registers.specs.points.Moves.{last_moved}
use Rattle.mx_registers.specs.points.Points.{moving}
use Rattle.mx_layout.specs.TableName.{TableName}
use Rattle.mx_layout.specs.declared.fault.Table.TheVariants as table
use Rattle.mx_layout.specs.Contents.{rows_in}
use Rattle.mx_layout.specs.Tables.{sector1}
use Rattle.mx_layout.specs.kept.Cells.{kept_sector1, kept_sector2}
use Rattle.mx_table_rows.specs.chosen.Choices.{AreFirst, is_any, is_up_to}
use Rattle.mx_tables.specs.inserts.Sets.{IsDamaged}
use Rattle.mx_moves.specs.steps.Batches.{batch_moved, is_number_next}
use Rattle.mx_moves.specs.steps.Rows.{MakesRows}

-- the sector has still to move: its number is above the mark, and one that an entry can have
abbrev pub is_next_from : ℕ → SectorRow → Bool
is_next_from mark row = is_number_next mark row.seq

-- these sectors are in the new table, those up to the mark of the point are gone from the old one, and the point is this one
abbrev pub sectors_moved : List SectorRow → Point → TableName → List Row → List Row
sectors_moved rows to = batch_moved kept_sector1 kept_sector2 rows to

-- the first 64 sectors of the old table, each of which has still to move, moved, and the point is that of the last of them, up to which the old table has just these
pub record MovesSectors (mark : ℕ) (to : Point) (old new : Trees) : Type 0 where
  pub rows : List SectorRow
  pub first : AreFirst (Some 64) kept_sector1.order sector1 is_any old (map kept_sector1.as_cells rows)
  pub fit : All FitsSector rows
  pub next : list_all (is_next_from mark) rows ≡ true
  pub point : to ≡ moving 1 (last_moved (λ row. row.seq) mark rows)
  pub gone : filter (is_up_to 0 (Int (pos to.mark))) (rows_in sector1 old) ≡ map kept_sector1.as_cells rows
  pub made : MakesRows (sectors_moved rows to) to old new

-- a row of the old table is no sector, or one that should have moved before, or one whose number no entry can have
abbrev pub IsOldOff : ℕ → TableName → Trees → Type 0
IsOldOff mark name trees = (name ≡ table.Sector1) × (IsDamaged trees table.Sector1 ⊎ ((row : SectorRow) × Contains (rows_in sector1 trees) (kept_sector1.as_cells row) × (is_next_from mark row ≡ false)))
