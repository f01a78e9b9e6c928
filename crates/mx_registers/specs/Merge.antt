-- The book that registers are those of.
-- A row of a sector, a fitting or a removal names the entries that added the aircraft and the component, and the
-- registration and the serial number are taken from there. In a book each is added by one entry alone, so that nothing
-- else need be compared. Positions are taken as long as their lines count on from 1; a row that is left over means that
-- the rows are those of no book.
use Rattle.std.specs.Prelude.{ℕ, ◌+◌, Bool, true, false, ◌&&◌, List, [], ◌∷◌, ◌++◌, length, Option, Some, None, nat_eq, if◌then◌else◌}
use Rattle.std.specs.Option.{option_and_then, option_map}
use Rattle.mx_base.specs.declared.amounts.Limit.{Limit}
use Rattle.mx_book.specs.commands.Act.{Act, Entry, Added, Listed, Loaded, Opened, Flown, Fitted, Removed, Released, Deferred, Extended}
use Rattle.mx_book.specs.commands.Programme.{has_dimension}
use Rattle.mx_book.specs.commands.Shape.{has_shape}
use Rattle.mx_book.specs.declared.commands.item.Item.{Item}
use Rattle.mx_book.specs.declared.commands.item.Item.TheVariants as items
use Rattle.mx_book.specs.declared.commands.programme.Task.{Task}
use Rattle.mx_book.specs.declared.commands.programme.Applies.{Applies}
use Rattle.mx_book.specs.declared.commands.programme.Applies.TheVariants.{Airframe, Part}
use Rattle.mx_book.specs.declared.commands.release.Place.{Place}
use Rattle.mx_book.specs.declared.commands.release.Place.TheVariants.{Aircraft as AtAircraft, Shop}
use Rattle.mx_book.specs.declared.commands.release.Line.{Line}
use Rattle.mx_book.specs.declared.commands.release.Line.TheVariants.{Done, Rectified}
use Rattle.mx_book.specs.Judge.{judge}
use Rattle.mx_book.specs.Book.{is_new}
use Rattle.mx_base.specs.declared.rows.rows.EntryKind.{EntryKind}
use Rattle.mx_base.specs.declared.rows.rows.EntryKind.TheVariants.{AddAircraft, AddComponent, LoadProgramme, Opening, Sector, Fit, Remove, Release, Defer, Extend}
use Rattle.mx_base.specs.declared.rows.rows.EntryRow.{EntryRow}
use Rattle.mx_base.specs.declared.rows.rows.AircraftRow.{AircraftRow}
use Rattle.mx_base.specs.declared.rows.rows.PlaceRow.{PlaceRow}
use Rattle.mx_base.specs.declared.rows.rows.ComponentRow.{ComponentRow}
use Rattle.mx_base.specs.declared.rows.rows.ProgrammeRow.{ProgrammeRow}
use Rattle.mx_base.specs.declared.rows.rows.TaskRow.{TaskRow}
use Rattle.mx_base.specs.declared.rows.rows.OpeningRow.{OpeningRow}
use Rattle.mx_base.specs.declared.rows.rows.SectorRow.{SectorRow}
use Rattle.mx_base.specs.declared.rows.rows.FittingRow.{FittingRow}
use Rattle.mx_base.specs.declared.rows.rows.RemovalRow.{RemovalRow}
use Rattle.mx_base.specs.declared.rows.rows.ReleaseRow.{ReleaseRow}
use Rattle.mx_base.specs.declared.rows.rows.ReleaseLineRow.{ReleaseLineRow}
use Rattle.mx_base.specs.declared.rows.rows.DeferralRow.{DeferralRow}
use Rattle.mx_base.specs.declared.rows.rows.ExtensionRow.{ExtensionRow}
use Rattle.mx_registers.specs.Names.{tail_at, serial_at, item_at, defect_at}
use Rattle.mx_registers.specs.Lines.{Lines, take_lines}

-- the rows that no entry has taken
pub record Rest : Type 0 where
  pub aircraft : List AircraftRow
  pub places : List PlaceRow
  pub components : List ComponentRow
  pub programmes : List ProgrammeRow
  pub tasks : List TaskRow
  pub openings : List OpeningRow
  pub releases : List ReleaseRow
  pub release_lines : List ReleaseLineRow
  pub deferrals : List DeferralRow
  pub extensions : List ExtensionRow
  pub sectors : List SectorRow
  pub fittings : List FittingRow
  pub removals : List RemovalRow

-- ── what rows say ──

-- what the row of an aircraft says, with these positions
abbrev pub aircraft_said : AircraftRow → List (List ℕ × List ℕ) → Act
aircraft_said row positions = Added (record { tail = row.tail; kind = row.kind; birth = row.birth; opening = record { minutes = row.minutes; cycles = row.cycles }; as_of = row.as_of }) positions

-- what the row of a component says
abbrev pub component_said : ComponentRow → Act
component_said row = Listed (record { serial = row.serial; part = row.part; birth = row.birth; opening = record { minutes = row.minutes; cycles = row.cycles }; as_of = row.as_of })

-- what the row of a programme says, with these tasks
abbrev pub programme_said : ProgrammeRow → List Task → Act
programme_said row tasks = Loaded (record { kind = row.kind; revision = row.revision }) tasks

-- what a task is done on, by the part in its row
abbrev pub applies_said : Option (List ℕ) → Applies
applies_said None = Airframe
applies_said (Some part) = Part part

-- the limit, or none where it has no dimension
abbrev pub limit_said : Limit → Option Limit
limit_said limit = if has_dimension limit then Some limit else None

-- the task that its row says
abbrev pub task_said : TaskRow → Task
task_said row = record { id = row.id; applies = applies_said row.part; first = row.first; repeat = limit_said row.repeat; tolerance = row.tolerance; retire = row.retire }

-- what the row of an opening says, of this item
abbrev pub opening_said : OpeningRow → Item → Act
opening_said row item = Opened (record { item = item; kind = row.kind; task = row.task; use_then = record { minutes = row.minutes; cycles = row.cycles }; day = row.day })

-- what the row of a sector says, where the aircraft has this registration
abbrev pub sector_said : SectorRow → List ℕ → Act
sector_said row tail = Flown (record { tail = tail; page = row.page; line = row.line; off = row.took_off; on = row.landed; cycles = row.cycles })

-- what the row of a fitting says, where the component has this serial number and the aircraft this registration
abbrev pub fitting_said : FittingRow → List ℕ → List ℕ → Act
fitting_said row serial tail = Fitted (record { serial = serial; tail = tail; position = row.position; moment = row.moment })

-- what the row of a removal says, where the component has this serial number
abbrev pub removal_said : RemovalRow → List ℕ → Act
removal_said row serial = Removed (record { serial = serial; moment = row.moment })

-- the place of a release: an aircraft without a kind, or a component in a shop with one
abbrev pub place_of : Option (List ℕ) → Item → Option Place
place_of None (items.Airframe tail) = Some (AtAircraft tail)
place_of None (items.Component serial) = None
place_of (Some kind) (items.Airframe tail) = None
place_of (Some kind) (items.Component serial) = Some (Shop serial kind)

-- the place that the row of a release says, behind the entries that added its item
abbrev pub place_said : List Entry → ReleaseRow → Option Place
place_said before row = option_and_then (place_of row.kind) (item_at before row.item)

-- what the row of a release says, at this place with these lines
abbrev pub release_said : ReleaseRow → Place → List Line → Act
release_said row place lines = Released (record { place = place; moment = row.moment }) lines

-- the line that the entry of an item, a task and the entry of a defect state: an item and a task without a defect, that the task was done on the item; a defect alone, that it was rectified
abbrev pub line_of : List Entry → Option ℕ → Option (List ℕ) → Option ℕ → Option Line
line_of before (Some item) (Some task) None = option_map (λ i. Done i task) (item_at before item)
line_of before None None (Some defect) = option_map Rectified (defect_at before defect)
line_of before _ _ _ = None

-- the line that its row says, behind the entries that added its item or deferred its defect
abbrev pub line_said : List Entry → ReleaseLineRow → Option Line
line_said before row = line_of before row.item row.task row.defect

-- what the row of a deferral says, where the aircraft has this registration
abbrev pub deferral_said : DeferralRow → List ℕ → Act
deferral_said row tail = Deferred (record { tail = tail; moment = row.moment; reference = row.reference; category = row.category })

-- what the row of an extension says, where the defect was deferred by this document
abbrev pub extension_said : ExtensionRow → List ℕ → Act
extension_said row doc = Extended (record { defect = doc; day = row.day; days = row.days })

-- ── the rows that an entry takes ──

-- the first row and those behind it, where it is of the entry with this number
abbrev pub first_of_entry : {Row : Type 0} → (Row → ℕ) → ℕ → List Row → Option (Row × List Row)
first_of_entry seq_of seq [] = None
first_of_entry seq_of seq (row ∷ rows) = if nat_eq (seq_of row) seq then Some (row, rows) else None

-- what the row of a position says, on its line
abbrev pub place_lines : Lines (List ℕ × List ℕ) PlaceRow
place_lines = record { seq = λ row. row.seq; line = λ row. row.line; said = λ row. Some (row.position, row.part) }

-- what the row of a task says, on its line
abbrev pub task_lines : Lines Task TaskRow
task_lines = record { seq = λ row. row.seq; line = λ row. row.line; said = λ row. Some (task_said row) }

-- what the row of a line of a release says, on its line
abbrev pub lines_of_release : List Entry → Lines Line ReleaseLineRow
lines_of_release before = record { seq = λ row. row.seq; line = λ row. row.line; said = line_said before }

-- the positions of the entry with this number, and the rows behind them
abbrev pub take_places : ℕ → List PlaceRow → List (List ℕ × List ℕ) × List PlaceRow
take_places seq rows = take_lines place_lines seq 1 rows

-- the tasks of the entry with this number, and the rows behind them
abbrev pub take_tasks : ℕ → List TaskRow → List Task × List TaskRow
take_tasks seq rows = take_lines task_lines seq 1 rows

-- the lines of the release of the entry with this number, and the rows behind them
abbrev pub take_release_lines : List Entry → ℕ → List ReleaseLineRow → List Line × List ReleaseLineRow
take_release_lines before seq rows = take_lines (lines_of_release before) seq 1 rows

-- what an entry that added an aircraft says: the first aircraft's row and the first positions, if they are of this entry
abbrev pub take_aircraft : ℕ → Rest → Option (Act × Rest)
take_aircraft seq rest =
    option_map (λ taken. (aircraft_said taken.0 (take_places seq rest.places).0, record rest { aircraft = taken.1; places = (take_places seq rest.places).1 })) (first_of_entry (λ row. row.seq) seq rest.aircraft)

-- what an entry that added a component says: the first component's row, if it is of this entry
abbrev pub take_component : ℕ → Rest → Option (Act × Rest)
take_component seq rest = option_map (λ taken. (component_said taken.0, record rest { components = taken.1 })) (first_of_entry (λ row. row.seq) seq rest.components)

-- what an entry that loaded a programme says: the first programme's row and the first tasks, if they are of this entry
abbrev pub take_programme : ℕ → Rest → Option (Act × Rest)
take_programme seq rest =
    option_map (λ taken. (programme_said taken.0 (take_tasks seq rest.tasks).0, record rest { programmes = taken.1; tasks = (take_tasks seq rest.tasks).1 })) (first_of_entry (λ row. row.seq) seq rest.programmes)

-- what an opening's entry says: the first opening's row, if it is of this entry and names an item
abbrev pub take_opening : List Entry → ℕ → Rest → Option (Act × Rest)
take_opening before seq rest =
    option_and_then (λ taken. option_map (λ item. (opening_said taken.0 item, record rest { openings = taken.1 })) (item_at before taken.0.item)) (first_of_entry (λ row. row.seq) seq rest.openings)

-- what a sector's entry says: the first sector's row, if it is of this entry and names an aircraft
abbrev pub take_sector : List Entry → ℕ → Rest → Option (Act × Rest)
take_sector before seq rest =
    option_and_then (λ taken. option_map (λ tail. (sector_said taken.0 tail, record rest { sectors = taken.1 })) (tail_at before taken.0.aircraft)) (first_of_entry (λ row. row.seq) seq rest.sectors)

-- what a fitting's entry says: the first fitting's row, if it is of this entry and names a component and an aircraft
abbrev pub take_fitting : List Entry → ℕ → Rest → Option (Act × Rest)
take_fitting before seq rest =
    option_and_then (λ taken. option_and_then (λ serial. option_map (λ tail. (fitting_said taken.0 serial tail, record rest { fittings = taken.1 })) (tail_at before taken.0.aircraft)) (serial_at before taken.0.component)) (first_of_entry (λ row. row.seq) seq rest.fittings)

-- what a removal's entry says: the first removal's row, if it is of this entry and names a component
abbrev pub take_removal : List Entry → ℕ → Rest → Option (Act × Rest)
take_removal before seq rest =
    option_and_then (λ taken. option_map (λ serial. (removal_said taken.0 serial, record rest { removals = taken.1 })) (serial_at before taken.0.component)) (first_of_entry (λ row. row.seq) seq rest.removals)

-- what a release's entry says: the first release's row and the first lines, if the row is of this entry and says a place
abbrev pub take_release : List Entry → ℕ → Rest → Option (Act × Rest)
take_release before seq rest =
    option_and_then (λ taken. option_map (λ place. (release_said taken.0 place (take_release_lines before seq rest.release_lines).0, record rest { releases = taken.1; release_lines = (take_release_lines before seq rest.release_lines).1 })) (place_said before taken.0)) (first_of_entry (λ row. row.seq) seq rest.releases)

-- what a deferral's entry says: the first deferral's row, if it is of this entry and names an aircraft
abbrev pub take_deferral : List Entry → ℕ → Rest → Option (Act × Rest)
take_deferral before seq rest =
    option_and_then (λ taken. option_map (λ tail. (deferral_said taken.0 tail, record rest { deferrals = taken.1 })) (tail_at before taken.0.aircraft)) (first_of_entry (λ row. row.seq) seq rest.deferrals)

-- what an extension's entry says: the first extension's row, if it is of this entry and names a defect
abbrev pub take_extension : List Entry → ℕ → Rest → Option (Act × Rest)
take_extension before seq rest =
    option_and_then (λ taken. option_map (λ doc. (extension_said taken.0 doc, record rest { extensions = taken.1 })) (defect_at before taken.0.defect)) (first_of_entry (λ row. row.seq) seq rest.extensions)

-- what an entry of this kind says, and the rows behind it
abbrev pub take_by : List Entry → ℕ → Rest → EntryKind → Option (Act × Rest)
take_by before seq rest AddAircraft = take_aircraft seq rest
take_by before seq rest AddComponent = take_component seq rest
take_by before seq rest LoadProgramme = take_programme seq rest
take_by before seq rest Opening = take_opening before seq rest
take_by before seq rest Sector = take_sector before seq rest
take_by before seq rest Fit = take_fitting before seq rest
take_by before seq rest Remove = take_removal before seq rest
take_by before seq rest Release = take_release before seq rest
take_by before seq rest Defer = take_deferral before seq rest
take_by before seq rest Extend = take_extension before seq rest

-- the command with this document that says this, where it has its shape
abbrev pub command_of : List ℕ → Act → Option Entry
command_of doc act = if has_shape (record { doc = doc; act = act }) then Some (record { doc = doc; act = act }) else None

-- the command that an entry and the first rows of its kind say, and the rows behind it
abbrev pub take_command : List Entry → EntryRow → Rest → Option (Entry × Rest)
take_command before entry rest =
    option_and_then (λ taken. option_map (λ command. (command, taken.1)) (command_of entry.doc taken.0)) (take_by before entry.seq rest entry.kind)

-- ── the merge ──

-- the entry has the next number, and its command is new
abbrev pub is_next : List Entry → EntryRow → Entry → Bool
is_next before entry command = nat_eq entry.seq (length before + 1) && is_new (judge before command)

-- the list is empty
abbrev pub is_empty : {Row : Type 0} → List Row → Bool
is_empty [] = true
is_empty (row ∷ rows) = false

-- every row of aircraft, of positions and of components is taken
abbrev pub are_items_taken : Rest → Bool
are_items_taken rest = is_empty rest.aircraft && (is_empty rest.places && is_empty rest.components)

-- every row of programmes, of tasks and of openings is taken
abbrev pub are_programmes_taken : Rest → Bool
are_programmes_taken rest = is_empty rest.programmes && (is_empty rest.tasks && is_empty rest.openings)

-- every row of sectors, of fittings and of removals is taken
abbrev pub are_moves_taken : Rest → Bool
are_moves_taken rest = is_empty rest.sectors && (is_empty rest.fittings && is_empty rest.removals)

-- every row of releases and of their lines is taken
abbrev pub are_releases_taken : Rest → Bool
are_releases_taken rest = is_empty rest.releases && is_empty rest.release_lines

-- every row of deferrals and of extensions is taken
abbrev pub are_defects_taken : Rest → Bool
are_defects_taken rest = is_empty rest.deferrals && is_empty rest.extensions

-- every row is taken
abbrev pub are_taken : Rest → Bool
are_taken rest = are_items_taken rest && (are_programmes_taken rest && (are_moves_taken rest && (are_releases_taken rest && are_defects_taken rest)))

-- the book that goes on with these rows, where they are those of one
abbrev pub merged : List Entry → List EntryRow → Rest → Option (List Entry)
merged before [] rest = if are_taken rest then Some before else None
merged before (entry ∷ entries) rest =
    option_and_then (λ (next : Entry × Rest). if is_next before entry next.0 then merged (before ++ next.0 ∷ []) entries next.1 else None) (take_command before entry rest)
