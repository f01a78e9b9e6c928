-- What the rows of an entry that were found state, where a book gives the names of the things whose numbers they have.
use Rattle.std.specs.Prelude.{ℕ, List, [], ◌∷◌, map, Option, Some, None, slice_get}
use Rattle.std.specs.Option.{option_and_then, option_map}
use Rattle.mx_book.specs.commands.Act.{Act, Entry}
use Rattle.mx_book.specs.declared.commands.release.Line.{Line}
use Rattle.mx_book.specs.declared.commands.release.Line.TheVariants as lines
use Rattle.mx_registers.specs.Merge.{aircraft_said, component_said, programme_said, task_said, opening_said, sector_said, fitting_said, removal_said, place_said, release_said, line_said, deferral_said, extension_said}
use Rattle.mx_registers.specs.Names.{tail_at, serial_at, item_at, defect_at}
use Rattle.mx_base.specs.declared.rows.rows.AircraftRow.{AircraftRow}
use Rattle.mx_base.specs.declared.rows.rows.PlaceRow.{PlaceRow}
use Rattle.mx_base.specs.declared.rows.rows.ComponentRow.{ComponentRow}
use Rattle.mx_base.specs.declared.rows.rows.ProgrammeRow.{ProgrammeRow}
use Rattle.mx_base.specs.declared.rows.rows.TaskRow.{TaskRow}
use Rattle.mx_base.specs.declared.rows.rows.OpeningRow.{OpeningRow}
use Rattle.mx_base.specs.declared.rows.rows.SectorRow.{SectorRow}
use Rattle.mx_base.specs.declared.rows.rows.FittingRow.{FittingRow}
use Rattle.mx_base.specs.declared.rows.rows.RemovalRow.{RemovalRow}
use Rattle.mx_base.specs.declared.rows.rows.ReleaseRow.{ReleaseRow}
use Rattle.mx_base.specs.declared.rows.rows.ReleaseLineRow.{ReleaseLineRow}
use Rattle.mx_base.specs.declared.rows.rows.DeferralRow.{DeferralRow}
use Rattle.mx_base.specs.declared.rows.rows.ExtensionRow.{ExtensionRow}
use Rattle.mx_base.specs.declared.rows.rows.EntryKind.{EntryKind}
use Rattle.mx_base.specs.declared.rows.rows.EntryKind.TheVariants.{AddAircraft, AddComponent, LoadProgramme, Opening, Sector, Fit, Remove, Release, Defer, Extend}
use Rattle.mx_row_rules.specs.declared.found.stated.Certified.{Certified}
use Rattle.mx_row_rules.specs.declared.found.stated.Certified.TheVariants.{Done, Rectified}
use Rattle.mx_row_rules.specs.found.Given.{found, aircraft, places, components, programmes, tasks, openings, sectors, fittings, removals, releases, release_lines, deferrals, extensions}

-- what the row of a position says
abbrev pub position_said : PlaceRow → List ℕ × List ℕ
position_said row = (row.position, row.part)

-- the first of these aircraft, with these positions
abbrev pub aircraft_stated : List PlaceRow → List AircraftRow → Option Act
aircraft_stated positions rows = option_map (λ row. aircraft_said row (map position_said positions)) (slice_get rows 0)

-- the first of these components
abbrev pub component_stated : List ComponentRow → Option Act
component_stated rows = option_map component_said (slice_get rows 0)

-- the first of these programmes, with these tasks
abbrev pub programme_stated : List TaskRow → List ProgrammeRow → Option Act
programme_stated loaded rows = option_map (λ row. programme_said row (map task_said loaded)) (slice_get rows 0)

-- the first of these openings
abbrev pub opening_stated : List Entry → List OpeningRow → Option Act
opening_stated book rows = option_and_then (λ row. option_map (opening_said row) (item_at book row.item)) (slice_get rows 0)

-- the first of these sectors
abbrev pub sector_stated : List Entry → List SectorRow → Option Act
sector_stated book rows = option_and_then (λ row. option_map (sector_said row) (tail_at book row.aircraft)) (slice_get rows 0)

-- the first of these fittings
abbrev pub fitting_stated : List Entry → List FittingRow → Option Act
fitting_stated book rows = option_and_then (λ row. option_and_then (λ serial. option_map (fitting_said row serial) (tail_at book row.aircraft)) (serial_at book row.component)) (slice_get rows 0)

-- the first of these removals
abbrev pub removal_stated : List Entry → List RemovalRow → Option Act
removal_stated book rows = option_and_then (λ row. option_map (removal_said row) (serial_at book row.component)) (slice_get rows 0)

-- what an item and a task, or a defect alone, certify by number
abbrev pub certified_by : Option ℕ → Option (List ℕ) → Option ℕ → Option Certified
certified_by (Some item) (Some task) None = Some (Done item task)
certified_by None None (Some defect) = Some (Rectified defect)
certified_by _ _ _ = None

-- what the row of a line certifies by number
abbrev pub certified_in : ReleaseLineRow → Option Certified
certified_in row = certified_by row.item row.task row.defect

-- the line that certifies it, where a book has its item or its defect
abbrev pub certified_said : List Entry → Certified → Option Line
certified_said book (Done item task) = option_map (λ i. lines.Done i task) (item_at book item)
certified_said book (Rectified defect) = option_map lines.Rectified (defect_at book defect)

-- the lines that these rows say, or none where one of them says none
abbrev pub lines_stated : List Entry → List ReleaseLineRow → Option (List Line)
lines_stated book [] = Some []
lines_stated book (row ∷ rows) = option_and_then (λ line. option_map (λ lines. line ∷ lines) (lines_stated book rows)) (line_said book row)

-- the first of these releases, with the lines that these rows say
abbrev pub release_stated : List Entry → List ReleaseLineRow → List ReleaseRow → Option Act
release_stated book lines rows = option_and_then (λ row. option_and_then (λ place. option_map (release_said row place) (lines_stated book lines)) (place_said book row)) (slice_get rows 0)

-- the first of these deferrals
abbrev pub deferral_stated : List Entry → List DeferralRow → Option Act
deferral_stated book rows = option_and_then (λ row. option_map (deferral_said row) (tail_at book row.aircraft)) (slice_get rows 0)

-- the first of these extensions
abbrev pub extension_stated : List Entry → List ExtensionRow → Option Act
extension_stated book rows = option_and_then (λ row. option_map (extension_said row) (defect_at book row.defect)) (slice_get rows 0)

-- what the rows of a book with this number state, as an entry of this kind
abbrev pub stated : List Entry → ℕ → EntryKind → Option Act
stated book n AddAircraft = aircraft_stated (found places book n) (found aircraft book n)
stated book n AddComponent = component_stated (found components book n)
stated book n LoadProgramme = programme_stated (found tasks book n) (found programmes book n)
stated book n Opening = opening_stated book (found openings book n)
stated book n Sector = sector_stated book (found sectors book n)
stated book n Fit = fitting_stated book (found fittings book n)
stated book n Remove = removal_stated book (found removals book n)
stated book n Release = release_stated book (found release_lines book n) (found releases book n)
stated book n Defer = deferral_stated book (found deferrals book n)
stated book n Extend = extension_stated book (found extensions book n)
