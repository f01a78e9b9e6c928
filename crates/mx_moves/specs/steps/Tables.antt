-- The steps that make tables, and drop those that are done with.
use Rattle.std.specs.Prelude.{◌≡◌, ◌≢◌, ◌⊎◌, List, []}
use Rattle.sqlite.specs.Order.{Row}
use Rattle.sqlite.specs.Tree.{Trees}
use Rattle.mx_base.specs.Settled.{settled}
use Rattle.mx_base.specs.declared.point.Point.{Point}
use Rattle.mx_registers.specs.points.Points.{moving}
use Rattle.mx_layout.specs.TableName.{TableName}
use Rattle.mx_layout.specs.declared.fault.Table.TheVariants as table
use Rattle.mx_layout.specs.Contents.{rows_in}
use Rattle.mx_layout.specs.Names.{table_named}
use Rattle.mx_layout.specs.Tables.{fit1, removal1, sector1}
use Rattle.mx_moves.specs.Changes.{emptied}
use Rattle.mx_moves.specs.Keeping.{point_set}
use Rattle.mx_moves.specs.steps.Rows.{MakesRows}

-- the table with this name is made, with no row, and the point is this one
abbrev pub table_made : TableName → Point → TableName → List Row → List Row
table_made new to name old = point_set to name (emptied new name old)

-- the new table of sectors is made, and nothing else changed but the point
pub record MakesSectors (to : Point) (old new : Trees) : Type 0 where
  pub point : to ≡ moving 1 0
  pub made : MakesRows (table_made table.Sector2 to) to old new

-- the old table of sectors, which had no row, is gone, that of spans is made, and nothing else changed but the point
pub record ChangesToSpans (to : Point) (old new : Trees) : Type 0 where
  pub empty : rows_in sector1 old ≡ []
  pub point : to ≡ moving 2 0
  pub made : MakesRows (table_made table.Span2 to) to old new

-- the table is that with the one name, and a row is left in it
abbrev pub IsRowLeft : TableName → TableName → Trees → Type 0
IsRowLeft old name trees = (name ≡ old) × (rows_in (table_named old) trees ≢ [])

-- a row is left in the old table of sectors
abbrev pub IsLeftOver : TableName → Trees → Type 0
IsLeftOver = IsRowLeft table.Sector1

-- the old tables of fittings and removals, which had no row, are gone, that of totals is made, and nothing else changed but the point
pub record ChangesToTotals (to : Point) (old new : Trees) : Type 0 where
  pub no_fitting : rows_in fit1 old ≡ []
  pub no_removal : rows_in removal1 old ≡ []
  pub point : to ≡ moving 3 0
  pub made : MakesRows (table_made table.Total2 to) to old new

-- a row is left in the old table of fittings, or in that of removals
abbrev pub IsUnmoved : TableName → Trees → Type 0
IsUnmoved name trees = ((name ≡ table.Fit1) ⊎ (name ≡ table.Removal1)) × (rows_in (table_named name) trees ≢ [])

-- the table of last bases is made, and nothing else changed but the point
pub record MakesBases (to : Point) (old new : Trees) : Type 0 where
  pub point : to ≡ moving 4 0
  pub made : MakesRows (table_made table.Base2 to) to old new

-- the move has ended: no row of a table changed but the point
pub record Finishes (to : Point) (old new : Trees) : Type 0 where
  pub point : to ≡ settled 2
  pub made : MakesRows (point_set to) to old new
