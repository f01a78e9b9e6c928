-- The registers of a book: the rows that its entries give to each table.
use Rattle.std.specs.Prelude.{◌≡◌, ℕ, ◌+◌, List, [], ◌∷◌, ◌++◌, length, Option, Some, None, unwrap_or}
use Rattle.std.specs.List.{cons_option}
use Rattle.std.specs.Option.{option_map}
use Rattle.mx_base.specs.declared.amounts.Limit.{Limit}
use Rattle.mx_book.specs.commands.Act.{Act, Entry, Added, Listed, Loaded, Opened, Flown, Fitted, Removed, Released, Deferred, Extended, aircraft_of, component_of, programme_of, opening_of, sector_of, fitting_of, removal_of, release_of, deferral_of, extension_of, positions_of, tasks_of, lines_of}
use Rattle.mx_book.specs.declared.commands.aircraft.Aircraft.{Aircraft}
use Rattle.mx_book.specs.declared.commands.component.Component.{Component}
use Rattle.mx_book.specs.declared.commands.programme.Programme.{Programme}
use Rattle.mx_book.specs.declared.commands.programme.Task.{Task}
use Rattle.mx_book.specs.declared.commands.programme.Applies.{Applies}
use Rattle.mx_book.specs.declared.commands.programme.Applies.TheVariants.{Airframe, Part}
use Rattle.mx_book.specs.declared.commands.opening.Opening.{Opening}
use Rattle.mx_book.specs.declared.commands.sector.Sector.{Sector}
use Rattle.mx_book.specs.declared.commands.fitting.Fitting.{Fitting}
use Rattle.mx_book.specs.declared.commands.fitting.Removal.{Removal}
use Rattle.mx_book.specs.declared.commands.release.Release.{Release}
use Rattle.mx_book.specs.declared.commands.release.Place.{Place}
use Rattle.mx_book.specs.declared.commands.release.Place.TheVariants.{Aircraft as AtAircraft, Shop}
use Rattle.mx_book.specs.declared.commands.release.Line.{Line}
use Rattle.mx_book.specs.declared.commands.release.Line.TheVariants.{Done, Rectified}
use Rattle.mx_book.specs.declared.commands.deferral.Deferral.{Deferral}
use Rattle.mx_book.specs.declared.commands.deferral.Extension.{Extension}
use Rattle.mx_book.specs.Judge.{item_at as item_of_place}
use Rattle.mx_base.specs.declared.rows.rows.EntryKind.{EntryKind}
use Rattle.mx_base.specs.declared.rows.rows.EntryKind.TheVariants as kinds
use Rattle.mx_base.specs.declared.rows.rows.EntryRow.{EntryRow}
use Rattle.mx_base.specs.declared.rows.rows.AircraftRow.{AircraftRow}
use Rattle.mx_base.specs.declared.rows.rows.PlaceRow.{PlaceRow}
use Rattle.mx_base.specs.declared.rows.rows.ComponentRow.{ComponentRow}
use Rattle.mx_base.specs.declared.rows.rows.ProgrammeRow.{ProgrammeRow}
use Rattle.mx_base.specs.declared.rows.rows.TaskRow.{TaskRow}
use Rattle.mx_base.specs.declared.rows.rows.OpeningRow.{OpeningRow}
use Rattle.mx_base.specs.declared.rows.rows.SectorRow.{SectorRow}
use Rattle.mx_base.specs.declared.rows.rows.FittingRow.{FittingRow}
use Rattle.mx_base.specs.declared.rows.rows.RemovalRow.{RemovalRow}
use Rattle.mx_base.specs.declared.rows.rows.ReleaseRow.{ReleaseRow}
use Rattle.mx_base.specs.declared.rows.rows.ReleaseLineRow.{ReleaseLineRow}
use Rattle.mx_base.specs.declared.rows.rows.DeferralRow.{DeferralRow}
use Rattle.mx_base.specs.declared.rows.rows.ExtensionRow.{ExtensionRow}
use Rattle.mx_registers.specs.declared.merge.Registers.{Registers}
use Rattle.mx_registers.specs.Names.{seq_of_tail, seq_of_serial, seq_of_defect, seq_of_item, or_zero}
use Rattle.mx_registers.specs.Lines.{lines_from}

-- ── a row ──

-- the kind of an entry
abbrev pub kind_of : Act → EntryKind
kind_of (Added aircraft positions) = kinds.AddAircraft
kind_of (Listed component) = kinds.AddComponent
kind_of (Loaded programme tasks) = kinds.LoadProgramme
kind_of (Opened opening) = kinds.Opening
kind_of (Flown sector) = kinds.Sector
kind_of (Fitted fitting) = kinds.Fit
kind_of (Removed removal) = kinds.Remove
kind_of (Released release lines) = kinds.Release
kind_of (Deferred deferral) = kinds.Defer
kind_of (Extended extension) = kinds.Extend

-- the row of an entry with this number
abbrev pub entry_row : ℕ → Entry → EntryRow
entry_row seq entry = record { seq = seq; doc = entry.doc; kind = kind_of entry.act }

-- the row of an aircraft that the entry with this number added
abbrev pub aircraft_row : ℕ → Aircraft → AircraftRow
aircraft_row seq a = record { seq = seq; tail = a.tail; kind = a.kind; birth = a.birth; minutes = a.opening.minutes; cycles = a.opening.cycles; as_of = a.as_of }

-- the row of a position, on this line of the aircraft that the entry with this number added
abbrev pub place_row : ℕ → ℕ → List ℕ × List ℕ → PlaceRow
place_row seq line p = record { seq = seq; line = line; position = p.0; part = p.1 }

-- the row of a component that the entry with this number added
abbrev pub component_row : ℕ → Component → ComponentRow
component_row seq c = record { seq = seq; serial = c.serial; part = c.part; birth = c.birth; minutes = c.opening.minutes; cycles = c.opening.cycles; as_of = c.as_of }

-- the row of a revision of a programme that the entry with this number loaded
abbrev pub programme_row : ℕ → Programme → ProgrammeRow
programme_row seq p = record { seq = seq; kind = p.kind; revision = p.revision }

-- the part that a task is done on, or none where it is done on the airframe
abbrev pub part_of : Applies → Option (List ℕ)
part_of Airframe = None
part_of (Part part) = Some part

-- the limit in no dimension, which stands for none
abbrev pub no_limit : Limit
no_limit = record { minutes = None; cycles = None; days = None }

-- the row of a task, on this line of the programme that the entry with this number loaded
abbrev pub task_row : ℕ → ℕ → Task → TaskRow
task_row seq line t = record { seq = seq; line = line; id = t.id; part = part_of t.applies; retire = t.retire; first = t.first; repeat = unwrap_or t.repeat no_limit; tolerance = t.tolerance }

-- the row of an opening that the entry with this number says, of the item that another entry added
abbrev pub opening_row : ℕ → ℕ → Opening → OpeningRow
opening_row seq item o = record { seq = seq; item = item; kind = o.kind; task = o.task; minutes = o.use_then.minutes; cycles = o.use_then.cycles; day = o.day }

-- the row of a sector that the entry with this number says, of the aircraft that another entry added
abbrev pub sector_row : ℕ → ℕ → Sector → SectorRow
sector_row seq aircraft s = record { seq = seq; aircraft = aircraft; page = s.page; line = s.line; took_off = s.off; landed = s.on; cycles = s.cycles }

-- the row of a fitting that the entry with this number says, of the component and to the aircraft that other entries added
abbrev pub fitting_row : ℕ → ℕ → ℕ → Fitting → FittingRow
fitting_row seq component aircraft f = record { seq = seq; component = component; aircraft = aircraft; position = f.position; moment = f.moment }

-- the row of a removal that the entry with this number says, of the component that another entry added
abbrev pub removal_row : ℕ → ℕ → Removal → RemovalRow
removal_row seq component r = record { seq = seq; component = component; moment = r.moment }

-- the kind of aircraft by whose programme work was done in a shop, or none where it was done at an aircraft
abbrev pub kind_in_shop : Place → Option (List ℕ)
kind_in_shop (AtAircraft tail) = None
kind_in_shop (Shop serial kind) = Some kind

-- the row of a release that the entry with this number says, at the item that another entry added
abbrev pub release_row : ℕ → ℕ → Release → ReleaseRow
release_row seq item r = record { seq = seq; item = item; kind = kind_in_shop r.place; moment = r.moment }

-- the row of a line, behind the entries that added its item or deferred its defect, on this line of the release that the entry with this number says
abbrev pub release_line_row : List Entry → ℕ → ℕ → Line → ReleaseLineRow
release_line_row before seq line (Done item task) = record { seq = seq; line = line; item = Some (or_zero (seq_of_item before item)); task = Some task; defect = None }
release_line_row before seq line (Rectified doc) = record { seq = seq; line = line; item = None; task = None; defect = Some (or_zero (seq_of_defect before doc)) }

-- the row of a deferral that the entry with this number says, of the aircraft that another entry added
abbrev pub deferral_row : ℕ → ℕ → Deferral → DeferralRow
deferral_row seq aircraft d = record { seq = seq; aircraft = aircraft; moment = d.moment; reference = d.reference; category = d.category }

-- the row of an extension that the entry with this number says, of the defect that another entry deferred
abbrev pub extension_row : ℕ → ℕ → Extension → ExtensionRow
extension_row seq defect x = record { seq = seq; defect = defect; day = x.day; days = x.days }

-- ── the rows of an entry, behind the entries before it ──

-- the number of the entry that comes behind these
abbrev pub next : List Entry → ℕ
next before = length before + 1

-- the row, where there is one
abbrev pub if_any : {X Row : Type 0} → (X → Row) → Option X → List Row
if_any row said = cons_option (option_map row said) []

-- the row that an entry adds to the entries
abbrev pub entry_added : List Entry → Entry → List EntryRow
entry_added before entry = entry_row (next before) entry ∷ []

-- the row of the aircraft that an entry adds
abbrev pub aircraft_by : List Entry → Act → List AircraftRow
aircraft_by before act = if_any (aircraft_row (next before)) (aircraft_of act)

-- the rows of the positions of the aircraft that an entry adds, numbered from 1
abbrev pub places_by : List Entry → Act → List PlaceRow
places_by before act = lines_from place_row (next before) 1 (positions_of act)

-- the row of the component that an entry adds
abbrev pub components_by : List Entry → Act → List ComponentRow
components_by before act = if_any (component_row (next before)) (component_of act)

-- the row of the programme that an entry loads
abbrev pub programmes_by : List Entry → Act → List ProgrammeRow
programmes_by before act = if_any (programme_row (next before)) (programme_of act)

-- the rows of the tasks of the programme that an entry loads, numbered from 1
abbrev pub tasks_by : List Entry → Act → List TaskRow
tasks_by before act = lines_from task_row (next before) 1 (tasks_of act)

-- the row of the opening that an entry says
abbrev pub openings_by : List Entry → Act → List OpeningRow
openings_by before act = if_any (λ o. opening_row (next before) (or_zero (seq_of_item before o.item)) o) (opening_of act)

-- the row of the sector that an entry says
abbrev pub sectors_by : List Entry → Act → List SectorRow
sectors_by before act = if_any (λ s. sector_row (next before) (or_zero (seq_of_tail before s.tail)) s) (sector_of act)

-- the row of the fitting that an entry says
abbrev pub fittings_by : List Entry → Act → List FittingRow
fittings_by before act = if_any (λ f. fitting_row (next before) (or_zero (seq_of_serial before f.serial)) (or_zero (seq_of_tail before f.tail)) f) (fitting_of act)

-- the row of the removal that an entry says
abbrev pub removals_by : List Entry → Act → List RemovalRow
removals_by before act = if_any (λ r. removal_row (next before) (or_zero (seq_of_serial before r.serial)) r) (removal_of act)

-- the row of the release that an entry says
abbrev pub releases_by : List Entry → Act → List ReleaseRow
releases_by before act = if_any (λ r. release_row (next before) (or_zero (seq_of_item before (item_of_place r.place))) r) (release_of act)

-- the rows of the lines of the release that an entry says, numbered from 1
abbrev pub release_lines_by : List Entry → Act → List ReleaseLineRow
release_lines_by before act = lines_from (release_line_row before) (next before) 1 (lines_of act)

-- the row of the deferral that an entry says
abbrev pub deferrals_by : List Entry → Act → List DeferralRow
deferrals_by before act = if_any (λ d. deferral_row (next before) (or_zero (seq_of_tail before d.tail)) d) (deferral_of act)

-- the row of the extension that an entry says
abbrev pub extensions_by : List Entry → Act → List ExtensionRow
extensions_by before act = if_any (λ x. extension_row (next before) (or_zero (seq_of_defect before x.defect)) x) (extension_of act)

-- ── the registers ──

-- the rows that entries give one after another, where each adds to the entries before it
abbrev pub gives : {Row : Type 0} → (List Entry → Entry → List Row) → List Entry → List Entry → List Row
gives added before [] = []
gives added before (entry ∷ later) = added before entry ++ gives added (before ++ entry ∷ []) later

-- the rows that entries give by what they say
abbrev pub gives_by : {Row : Type 0} → (List Entry → Act → List Row) → List Entry → List Entry → List Row
gives_by by before later = gives (λ earlier entry. by earlier entry.act) before later

-- the entries of a book, numbered from 1
abbrev pub entry_rows : List Entry → List EntryRow
entry_rows book = gives entry_added [] book

-- the aircraft of a book, each with the number of the entry that added it
abbrev pub aircraft_rows : List Entry → List AircraftRow
aircraft_rows book = gives_by aircraft_by [] book

-- the positions of the aircraft of a book
abbrev pub place_rows : List Entry → List PlaceRow
place_rows book = gives_by places_by [] book

-- the components of a book, each with the number of the entry that added it
abbrev pub component_rows : List Entry → List ComponentRow
component_rows book = gives_by components_by [] book

-- the revisions of programmes that a book loads, each with the number of its entry
abbrev pub programme_rows : List Entry → List ProgrammeRow
programme_rows book = gives_by programmes_by [] book

-- the tasks of the programmes that a book loads
abbrev pub task_rows : List Entry → List TaskRow
task_rows book = gives_by tasks_by [] book

-- the openings of a book, each with the number of its entry
abbrev pub opening_rows : List Entry → List OpeningRow
opening_rows book = gives_by openings_by [] book

-- the sectors of a book, each with the number of its entry
abbrev pub sector_rows : List Entry → List SectorRow
sector_rows book = gives_by sectors_by [] book

-- the fittings of a book, each with the number of its entry
abbrev pub fitting_rows : List Entry → List FittingRow
fitting_rows book = gives_by fittings_by [] book

-- the removals of a book, each with the number of its entry
abbrev pub removal_rows : List Entry → List RemovalRow
removal_rows book = gives_by removals_by [] book

-- the releases of a book, each with the number of its entry
abbrev pub release_rows : List Entry → List ReleaseRow
release_rows book = gives_by releases_by [] book

-- the lines of the releases of a book
abbrev pub release_line_rows : List Entry → List ReleaseLineRow
release_line_rows book = gives_by release_lines_by [] book

-- the deferrals of a book, each with the number of its entry
abbrev pub deferral_rows : List Entry → List DeferralRow
deferral_rows book = gives_by deferrals_by [] book

-- the extensions of a book, each with the number of its entry
abbrev pub extension_rows : List Entry → List ExtensionRow
extension_rows book = gives_by extensions_by [] book

-- the registers are those of the book
pub record AreRegistersOf (r : Registers) (book : List Entry) : Type 0 where
  pub entries : r.entries.items ≡ entry_rows book
  pub aircraft : r.rows.aircraft.items ≡ aircraft_rows book
  pub places : r.rows.places.items ≡ place_rows book
  pub components : r.rows.components.items ≡ component_rows book
  pub programmes : r.rows.programmes.items ≡ programme_rows book
  pub tasks : r.rows.tasks.items ≡ task_rows book
  pub openings : r.rows.openings.items ≡ opening_rows book
  pub releases : r.rows.releases.items ≡ release_rows book
  pub release_lines : r.rows.release_lines.items ≡ release_line_rows book
  pub deferrals : r.rows.deferrals.items ≡ deferral_rows book
  pub extensions : r.rows.extensions.items ≡ extension_rows book
  pub sectors : r.rows.sectors.items ≡ sector_rows book
  pub fittings : r.rows.fittings.items ≡ fitting_rows book
  pub removals : r.rows.removals.items ≡ removal_rows book
