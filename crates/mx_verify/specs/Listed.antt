-- Which tables of the layout that is verified a schema lacks.
use Rattle.std.specs.Prelude.{Bool, not, List, [], ◌∷◌}
use Rattle.std.specs.List.{list_any}
use Rattle.sqlite.specs.Schema.{Schema}
use Rattle.mx_layout.specs.Listed.{has_table}
use Rattle.mx_layout.specs.Names.{table_name}
use Rattle.mx_layout.specs.TableName.{TableName}
use Rattle.mx_layout.specs.declared.fault.Table.TheVariants as table

-- the names of the tables of a file at the point whose tables are verified, in the order in which they are made
abbrev pub verified_names : List TableName
verified_names = table.Office ∷ table.Entry ∷ table.Aircraft ∷ table.Place ∷ table.Component ∷ table.Programme ∷ table.Task ∷ table.Opening ∷ table.Crs ∷ table.CrsLine ∷ table.Extension ∷ table.Defect ∷ table.Sector2 ∷ table.Span2 ∷ table.Total2 ∷ table.Base2 ∷ []

-- no table has this name
abbrev pub lacks : Schema → TableName → Bool
lacks schema name = not (has_table schema (table_name name))

-- one of the tables is missing
abbrev pub lacks_any : Schema → Bool
lacks_any schema = list_any (lacks schema) verified_names
