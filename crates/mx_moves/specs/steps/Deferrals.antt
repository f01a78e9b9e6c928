-- The step that moves deferrals, at most 64 a commit.
-- Deferrals are read by their place and deleted by their number, as sectors are (`gone`). What comes is handed in: the
-- same deferrals, each with the cycles at which it was found, which the old table does not have.
use Rattle.std.specs.Prelude.{◌≡◌, ◌≢◌, ◌⊎◌, ℕ, pos, Bool, true, false, List, Some, map, filter, All, Contains}
use Rattle.std.specs.List.{list_all}
use Rattle.sqlite.specs.declared.types.Value.TheVariants.{Int}
use Rattle.sqlite.specs.Order.{Row}
use Rattle.sqlite.specs.Tree.{Trees}
use Rattle.mx_base.specs.declared.rows.rows.DeferralRow.{DeferralRow}
use Rattle.mx_base.specs.declared.rows.rows.Deferral3Row.{Deferral3Row}
use Rattle.mx_base.specs.rows.Rows.{FitsDeferral}
use Rattle.mx_base.specs.declared.point.Point.{Point}
use Rattle.mx_registers.specs.points.Moves.{last_moved}
use Rattle.mx_registers.specs.points.Points.{moving_from}
use Rattle.mx_layout.specs.TableName.{TableName}
use Rattle.mx_layout.specs.declared.fault.Table.TheVariants as table
use Rattle.mx_layout.specs.Contents.{rows_in}
use Rattle.mx_layout.specs.Tables.{defect}
use Rattle.mx_layout.specs.kept.Cells.{kept_defect, kept_defect3}
use Rattle.mx_table_rows.specs.chosen.Choices.{AreFirst, is_any, is_up_to}
use Rattle.mx_tables.specs.inserts.Sets.{IsDamaged}
use Rattle.mx_book_tables.specs.reading.Deferrals.{deferrals_in}
use Rattle.mx_moves.specs.steps.Batches.{batch_moved, is_number_next}
use Rattle.mx_moves.specs.steps.Rows.{MakesRows}

-- the deferral has still to move: its number is above the mark, and one that an entry can have
abbrev pub is_deferral_next : ℕ → DeferralRow → Bool
is_deferral_next mark row = is_number_next mark row.seq

-- these deferrals are in the new table, those up to the mark of the point are gone from the old one, and the point is this one
abbrev pub deferrals_moved : List Deferral3Row → Point → TableName → List Row → List Row
deferrals_moved rows to = batch_moved kept_defect kept_defect3 rows to

-- these deferrals moved: the first 64 of the old table are the same, each of which had still to move, and the point is that of the last of them, up to which the old table had just these
pub record MovesDeferrals (mark : ℕ) (rows : List Deferral3Row) (to : Point) (old new : Trees) : Type 0 where
  pub first : AreFirst (Some 64) kept_defect.order defect is_any old (map kept_defect.as_cells (deferrals_in rows))
  pub fit : All FitsDeferral (deferrals_in rows)
  pub next : list_all (is_deferral_next mark) (deferrals_in rows) ≡ true
  pub point : to ≡ moving_from 2 1 (last_moved (λ row. row.seq) mark (deferrals_in rows))
  pub gone : filter (is_up_to 0 (Int (pos to.mark))) (rows_in defect old) ≡ map kept_defect.as_cells (deferrals_in rows)
  pub made : MakesRows (deferrals_moved rows to) to old new

-- the first 64 rows of the old table are other deferrals than these
abbrev pub AreOthers : List Deferral3Row → Trees → Type 0
AreOthers rows trees = (read : List DeferralRow) × AreFirst (Some 64) kept_defect.order defect is_any trees (map kept_defect.as_cells read) × All FitsDeferral read × (read ≢ deferrals_in rows)

-- a row of the old table is no deferral, or one that should have moved before, or one whose number no entry can have; or its first are not those that were handed in
abbrev pub IsDeferralOff : ℕ → List Deferral3Row → TableName → Trees → Type 0
IsDeferralOff mark rows name trees =
    (name ≡ table.Defect) × (IsDamaged trees table.Defect ⊎ (((row : DeferralRow) × Contains (rows_in defect trees) (kept_defect.as_cells row) × (is_deferral_next mark row ≡ false)) ⊎ AreOthers rows trees))
