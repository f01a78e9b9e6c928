-- The tables by their names.
use Rattle.std.specs.Prelude.{ℕ, List}
use Rattle.sqlite.specs.Table.{Table}
use Rattle.mx_layout.specs.Tables
use Rattle.mx_layout.specs.TableName.{TableName}
use Rattle.mx_layout.specs.declared.fault.Table.TheVariants as table

-- the table with a name, in each layout that has it
abbrev pub table_named : TableName → Table
table_named table.Office = Tables.office
table_named table.Entry = Tables.entry
table_named table.Aircraft = Tables.aircraft
table_named table.Place = Tables.place
table_named table.Component = Tables.component
table_named table.Programme = Tables.programme
table_named table.Task = Tables.task
table_named table.Opening = Tables.opening
table_named table.Crs = Tables.crs
table_named table.CrsLine = Tables.crs_line
table_named table.Extension = Tables.extension
table_named table.Defect = Tables.defect
table_named table.Sector1 = Tables.sector1
table_named table.Fit1 = Tables.fit1
table_named table.Removal1 = Tables.removal1
table_named table.Sector2 = Tables.sector2
table_named table.Span2 = Tables.span2
table_named table.Total2 = Tables.total2
table_named table.Base2 = Tables.base2
table_named table.Defect3 = Tables.defect3
table_named table.Done3 = Tables.done3

-- the name of a table in the file
abbrev pub table_name : TableName → List ℕ
table_name name = (table_named name).name
