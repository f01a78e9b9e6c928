-- The deferrals of a file, by the tables that it has of them at its point.
use Rattle.std.specs.Prelude.{◌≡◌, true, false, List, [], ◌++◌, Bool, map}
use Rattle.sqlite.specs.Schema.{Schema}
use Rattle.sqlite.specs.Tree.{Trees}
use Rattle.mx_base.specs.declared.rows.rows.DeferralRow.{DeferralRow}
use Rattle.mx_base.specs.declared.rows.rows.Deferral3Row.{Deferral3Row}
use Rattle.mx_base.specs.declared.point.Point.{Point}
use Rattle.mx_registers.specs.points.Points.{is_past, is_within_step, step_of}
use Rattle.mx_layout.specs.TableName.{TableName}
use Rattle.mx_layout.specs.declared.fault.Table.TheVariants as table
use Rattle.mx_layout.specs.kept.Kept.{Kept}
use Rattle.mx_layout.specs.kept.Cells.{kept_defect, kept_defect3}
use Rattle.mx_tables.specs.inserts.Sets.{AreRowsOf}
use Rattle.mx_book_tables.specs.stands.Family.{is_at}

-- the step that moves deferrals is behind the file, and the file is in it
abbrev pub has_moved_deferrals : Point → Bool
has_moved_deferrals at = is_past at (step_of 2 1)

abbrev pub is_moving_deferrals : Point → Bool
is_moving_deferrals at = is_within_step at (step_of 2 1)

-- the deferrals, without the cycles at which they were found
abbrev pub deferrals_in : List Deferral3Row → List DeferralRow
deferrals_in rows = map (λ (row : Deferral3Row). row.deferral) rows

-- the schema has each table of deferrals that a file at the point has
pub record HasDeferralsAt (at : Point) (schema : Schema) : Type 0 where
  pub left : is_at at table.Defect ≡ true → kept_defect.IsIn schema
  pub moved : is_at at table.Defect3 ≡ true → kept_defect3.IsIn schema

-- the rows of a table, where a file at the point has it, and else none
abbrev pub AreRowsAt : {X : Type 0} → Point → TableName → Kept X → Trees → List X → Type 0
AreRowsAt at name k trees rows = (is_at at name ≡ true → AreRowsOf k trees rows) × (is_at at name ≡ false → rows ≡ [])

-- these are the deferrals of the tables that a file at the point has of them, those that have moved first
pub record AreDeferralsAt (at : Point) (trees : Trees) (deferrals : List DeferralRow) : Type 0 where
  pub moved : List Deferral3Row
  pub left : List DeferralRow
  pub are_moved : AreRowsAt at table.Defect3 kept_defect3 trees moved
  pub are_left : AreRowsAt at table.Defect kept_defect trees left
  pub together : deferrals ≡ deferrals_in moved ++ left
