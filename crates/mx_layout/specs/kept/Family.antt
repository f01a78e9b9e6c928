-- The tables as one family, with a line for each: which rows are of a table's type, and what rows added to it come to.
use Rattle.std.specs.Prelude.{⊤, List, map, ◌++◌, nat_eq, if◌then◌else◌}
use Rattle.sqlite.specs.Order.{Row}
use Rattle.mx_layout.specs.TableName.{TableName}
use Rattle.mx_layout.specs.declared.fault.Table.TheVariants as table
use Rattle.mx_layout.specs.Names.{table_named}
use Rattle.mx_layout.specs.Reading.{IsRowOf}
use Rattle.mx_layout.specs.kept.Kept.{Kept}
use Rattle.mx_layout.specs.kept.Cells

-- the row is that of something that can be kept in the table
abbrev pub IsReadableAs : {X : Type 0} → Kept X → Row → Type 0
IsReadableAs k = IsRowOf k.as_cells k.Fits

-- what is said of how the rows of the table with this name are kept, or else of a table whose rows have no type
abbrev pub of_kept : (R : Type 1) → ((X : Type 0) → Kept X → R) → R → TableName → R
of_kept R said none table.Entry = said _ Cells.kept_entry
of_kept R said none table.Aircraft = said _ Cells.kept_aircraft
of_kept R said none table.Place = said _ Cells.kept_place
of_kept R said none table.Component = said _ Cells.kept_component
of_kept R said none table.Programme = said _ Cells.kept_programme
of_kept R said none table.Task = said _ Cells.kept_task
of_kept R said none table.Opening = said _ Cells.kept_opening
of_kept R said none table.Crs = said _ Cells.kept_crs
of_kept R said none table.CrsLine = said _ Cells.kept_crs_line
of_kept R said none table.Defect = said _ Cells.kept_defect
of_kept R said none table.Extension = said _ Cells.kept_extension
of_kept R said none table.Sector1 = said _ Cells.kept_sector1
of_kept R said none table.Fit1 = said _ Cells.kept_fit1
of_kept R said none table.Removal1 = said _ Cells.kept_removal1
of_kept R said none table.Sector2 = said _ Cells.kept_sector2
of_kept R said none table.Span2 = said _ Cells.kept_span2
of_kept R said none table.Total2 = said _ Cells.kept_total2
of_kept R said none table.Base2 = said _ Cells.kept_base2
of_kept R said none table.Defect3 = said _ Cells.kept_defect3
of_kept R said none table.Done3 = said _ Cells.kept_done3
of_kept R said none _ = none

-- the row is of the type of the table with this name; of a table whose rows have no type nothing is asked
abbrev pub IsReadable : TableName → Row → Type 0
IsReadable = of_kept (Row → Type 0) (λ _ k. IsReadableAs k) (λ _. ⊤)

-- the rows on top of others, where these are of the same table
abbrev pub on_top : {X : Type 0} → Kept X → List X → TableName → List Row → List Row
on_top k xs name more = if nat_eq (table_named k.name).tree (table_named name).tree then map k.as_cells xs ++ more else more
