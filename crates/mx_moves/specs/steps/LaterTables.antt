-- The steps of the move from layout 2 to layout 3 that make tables, and drop those that are done with.
use Rattle.std.specs.Prelude.{◌≡◌, []}
use Rattle.sqlite.specs.Tree.{Trees}
use Rattle.mx_base.specs.Settled.{settled}
use Rattle.mx_base.specs.declared.point.Point.{Point}
use Rattle.mx_registers.specs.points.Points.{moving_from}
use Rattle.mx_layout.specs.TableName.{TableName}
use Rattle.mx_layout.specs.declared.fault.Table.TheVariants as table
use Rattle.mx_layout.specs.Contents.{rows_in}
use Rattle.mx_layout.specs.Tables.{base2, defect}
use Rattle.mx_moves.specs.Keeping.{point_set}
use Rattle.mx_moves.specs.steps.Rows.{MakesRows}
use Rattle.mx_moves.specs.steps.Tables.{IsRowLeft, table_made}

-- the new table of deferrals is made, and nothing else changed but the point
pub record MakesDeferrals (to : Point) (old new : Trees) : Type 0 where
  pub point : to ≡ moving_from 2 1 0
  pub made : MakesRows (table_made table.Defect3 to) to old new

-- the old table of deferrals, which had no row, is gone, that of accomplishments is made, and nothing else changed but the point
pub record ChangesToAccomplishments (to : Point) (old new : Trees) : Type 0 where
  pub empty : rows_in defect old ≡ []
  pub point : to ≡ moving_from 2 2 0
  pub made : MakesRows (table_made table.Done3 to) to old new

-- a row is left in the old table of deferrals
abbrev pub IsDeferralLeft : TableName → Trees → Type 0
IsDeferralLeft = IsRowLeft table.Defect

-- the move has ended: the table of last bases, which had no row, is gone, and no row of another changed but the point
pub record FinishesLater (to : Point) (old new : Trees) : Type 0 where
  pub empty : rows_in base2 old ≡ []
  pub point : to ≡ settled 3
  pub made : MakesRows (point_set to) to old new

-- a row is left in the table of last bases
abbrev pub IsBaseLeft : TableName → Trees → Type 0
IsBaseLeft = IsRowLeft table.Base2
