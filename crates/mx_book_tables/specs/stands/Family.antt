-- The tables as one family, with a line for each: how its rows are kept, which of a book's rows stand in it at a point, what a command makes of them, and where they are among the registers.
use Rattle.std.specs.Prelude.{⊤, ◌≡◌, Bool, true, false, List, [], ◌∷◌, ◌++◌, map, All, IsPermutation, Option, Some, None, if◌then◌else◌}
use Rattle.sqlite.specs.Order.{Row}
use Rattle.sqlite.specs.Schema.{Schema}
use Rattle.mx_book.specs.commands.Act.{Entry}
use Rattle.mx_book.specs.commands.Shape.{has_shape}
use Rattle.mx_book.specs.Book.{IsBook}
use Rattle.mx_book.specs.Judge.{judge}
use Rattle.mx_book.specs.declared.verdict.Verdict.TheVariants.{New}
use Rattle.mx_registers.specs.declared.merge.Registers.{Registers}
use Rattle.mx_registers.specs.Registers.{entry_added, aircraft_by, places_by, components_by, programmes_by, tasks_by, openings_by, sectors_by, fittings_by, removals_by, releases_by, release_lines_by, deferrals_by, extensions_by}
use Rattle.mx_registers.specs.kept.Becomes.{BecomesSome, Change, adding, bases_become, spans_become, totals_become}
use Rattle.mx_registers.specs.late.Done.{done_become}
use Rattle.mx_registers.specs.late.Found.{found_become}
use Rattle.mx_base.specs.declared.point.Point.{Point}
use Rattle.mx_registers.specs.points.Tables.{Line, rows_at, is_table_at, entries_all, aircraft_all, places_all, components_all, programmes_all, tasks_all, openings_all, releases_all, release_lines_all, extensions_all, deferrals_2, sectors_1, fittings_1, removals_1, sectors_2, spans_2, totals_2, bases_2, deferrals_3, done_3}
use Rattle.mx_layout.specs.TableName.{TableName}
use Rattle.mx_layout.specs.declared.fault.Table.TheVariants as table
use Rattle.mx_layout.specs.Point.{point_cells}
use Rattle.mx_layout.specs.kept.Kept.{Kept}
use Rattle.mx_layout.specs.kept.Cells.{kept_entry, kept_aircraft, kept_place, kept_component, kept_programme, kept_task, kept_opening, kept_crs, kept_crs_line, kept_defect, kept_extension, kept_sector1, kept_fit1, kept_removal1, kept_sector2, kept_span2, kept_total2, kept_base2, kept_defect3, kept_done3}

-- the rows of a table: how they are kept, which of a book's stand in it at a point, what a command makes of them, and where they are among the registers, if they are one; or none, of a table that no command writes
pub data Rows : Type 1 where
  of : {X : Type 0} → Kept X → Line X → Change X → Option (Registers → List X) → Rows
  none : Rows

-- the rows of the table with a name
abbrev pub rows_of : TableName → Rows
rows_of table.Entry = of kept_entry entries_all (λ before command rows. rows ++ entry_added before command) (Some (λ r. r.entries.items))
rows_of table.Aircraft = of kept_aircraft aircraft_all (adding aircraft_by) (Some (λ r. r.rows.aircraft.items))
rows_of table.Place = of kept_place places_all (adding places_by) (Some (λ r. r.rows.places.items))
rows_of table.Component = of kept_component components_all (adding components_by) (Some (λ r. r.rows.components.items))
rows_of table.Programme = of kept_programme programmes_all (adding programmes_by) (Some (λ r. r.rows.programmes.items))
rows_of table.Task = of kept_task tasks_all (adding tasks_by) (Some (λ r. r.rows.tasks.items))
rows_of table.Opening = of kept_opening openings_all (adding openings_by) (Some (λ r. r.rows.openings.items))
rows_of table.Crs = of kept_crs releases_all (adding releases_by) (Some (λ r. r.rows.releases.items))
rows_of table.CrsLine = of kept_crs_line release_lines_all (adding release_lines_by) (Some (λ r. r.rows.release_lines.items))
rows_of table.Defect = of kept_defect deferrals_2 (adding deferrals_by) (Some (λ r. r.rows.deferrals.items))
rows_of table.Extension = of kept_extension extensions_all (adding extensions_by) (Some (λ r. r.rows.extensions.items))
rows_of table.Sector1 = of kept_sector1 sectors_1 (adding sectors_by) (Some (λ r. r.rows.sectors.items))
rows_of table.Fit1 = of kept_fit1 fittings_1 (adding fittings_by) (Some (λ r. r.rows.fittings.items))
rows_of table.Removal1 = of kept_removal1 removals_1 (adding removals_by) (Some (λ r. r.rows.removals.items))
rows_of table.Sector2 = of kept_sector2 sectors_2 (adding sectors_by) (Some (λ r. r.rows.sectors.items))
rows_of table.Span2 = of kept_span2 spans_2 spans_become None
rows_of table.Total2 = of kept_total2 totals_2 totals_become None
rows_of table.Base2 = of kept_base2 bases_2 bases_become None
rows_of table.Defect3 = of kept_defect3 deferrals_3 found_become None
rows_of table.Done3 = of kept_done3 done_3 done_become None
rows_of table.Office = none

-- the tables that all layouts have and that commands write, in the order in which they are read
abbrev pub permanent_names : List TableName
permanent_names = table.Entry ∷ table.Aircraft ∷ table.Place ∷ table.Component ∷ table.Programme ∷ table.Task ∷ table.Opening ∷ table.Crs ∷ table.CrsLine ∷ table.Extension ∷ []

-- the tables behind these, in the order in which layouts make them
abbrev pub own_names : List TableName
own_names = table.Defect ∷ table.Sector1 ∷ table.Fit1 ∷ table.Removal1 ∷ table.Sector2 ∷ table.Span2 ∷ table.Total2 ∷ table.Base2 ∷ table.Defect3 ∷ table.Done3 ∷ []

-- ── what the family says of each table ──

-- there is such a table at the point
abbrev pub is_there : Rows → Point → Bool
is_there (of k line change read) at = is_table_at line at
is_there none at = false

-- the texts of the table are understood in a schema
abbrev pub IsIn : Rows → Schema → Type 0
IsIn (of k line change read) schema = k.IsIn schema
IsIn none schema = ⊤

-- its rows are one of the registers
abbrev pub is_register : Rows → Bool
is_register (of k line change (Some read)) = true
is_register _ = false

-- the rows that a book gives it at the point
abbrev pub given : Rows → Point → List Entry → List Row
given (of k line change read) at book = map k.as_cells (rows_at line at book)
given none at book = []

-- those rows can be kept in its columns
abbrev pub Fit : Rows → Point → List Entry → Type 0
Fit (of k line change read) at book = All k.Fits (rows_at line at book)
Fit none at book = ⊤

-- the rows that a command brings to it at the point, behind the entries before it: what it makes of none
abbrev pub brought : Rows → Point → List Entry → Entry → List Row
brought (of k line change read) at before command = if is_table_at line at then map k.as_cells (change before command []) else []
brought none at before command = []

-- those rows can be kept in its columns
abbrev pub FitBrought : Rows → Point → List Entry → Entry → Type 0
FitBrought (of k line change read) at before command = is_table_at line at ≡ true → All k.Fits (change before command [])
FitBrought none at before command = ⊤

-- with a new command its rows become what its line says
abbrev pub BecomesBy : Rows → Type 0
BecomesBy (of k line change read) = BecomesSome line.rows change
BecomesBy none = ⊤

-- at the point a new command makes of the rows that stand in it what its line says
abbrev pub BecomesAt : Rows → Point → Type 0
BecomesAt (of k line change read) at = (book : List Entry) (command : Entry) → IsBook book → judge book command ≡ New → has_shape command ≡ true
    → IsPermutation (map k.as_cells (change book command (rows_at line at book))) (map k.as_cells (rows_at line at (book ++ command ∷ [])))
BecomesAt none at = ⊤

-- at the point a command brings these rows to it, behind those from before
abbrev pub Brings : Rows → Point → Type 0
Brings rows at = (book : List Entry) (command : Entry) → given rows at (book ++ command ∷ []) ≡ given rows at book ++ brought rows at book command

-- ── tables by name ──

-- the rows of each table that no command writes: the point itself
abbrev pub first_rows : Point → TableName → List Row
first_rows at table.Office = point_cells at ∷ []
first_rows at _ = []

-- the rows that a book gives to each table of a file that is at this point
abbrev pub rows_given : Point → List Entry → TableName → List Row
rows_given at book name = first_rows at name ++ given (rows_of name) at book

-- a file at this point has the table
abbrev pub is_at : Point → TableName → Bool
is_at at table.Office = true
is_at at name = is_there (rows_of name) at

-- the rows that a command adds to each table at this point, behind the entries before it
abbrev pub added : Point → TableName → List Entry → Entry → List Row
added at name = brought (rows_of name) at
