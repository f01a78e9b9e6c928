-- The registers as one family: the number in a row, and the rows that a command would have with a number, of names that are looked up in a book.
use Rattle.std.specs.Prelude.{◌≡◌, ℕ, List, [], Option, None, Some, filter, nat_eq}
use Rattle.mx_book.specs.commands.Act.{Act, Entry, Added, Listed, Loaded, Opened, Flown, Fitted, Removed, Released, Deferred, Extended, aircraft_of, positions_of, component_of, programme_of, tasks_of, opening_of, sector_of, fitting_of, removal_of, release_of, lines_of, deferral_of, extension_of}
use Rattle.mx_book.specs.declared.commands.release.Line.{Line}
use Rattle.mx_book.specs.declared.commands.release.Line.TheVariants.{Done, Rectified}
use Rattle.mx_book.specs.Judge.{item_at}
use Rattle.mx_registers.specs.Lines.{lines_from}
use Rattle.mx_registers.specs.Names.{or_zero, seq_of_tail, seq_of_serial, seq_of_defect, seq_of_item}
use Rattle.mx_registers.specs.Registers.{gives_by, next, if_any, aircraft_row, place_row, component_row, programme_row, task_row, opening_row, sector_row, fitting_row, removal_row, release_row, release_line_row, deferral_row, extension_row}
use Rattle.mx_base.specs.declared.rows.rows.AircraftRow.{AircraftRow}
use Rattle.mx_base.specs.declared.rows.rows.PlaceRow.{PlaceRow}
use Rattle.mx_base.specs.declared.rows.rows.ComponentRow.{ComponentRow}
use Rattle.mx_base.specs.declared.rows.rows.ProgrammeRow.{ProgrammeRow}
use Rattle.mx_base.specs.declared.rows.rows.TaskRow.{TaskRow}
use Rattle.mx_base.specs.declared.rows.rows.OpeningRow.{OpeningRow}
use Rattle.mx_base.specs.declared.rows.rows.SectorRow.{SectorRow}
use Rattle.mx_base.specs.declared.rows.rows.FittingRow.{FittingRow}
use Rattle.mx_base.specs.declared.rows.rows.RemovalRow.{RemovalRow}
use Rattle.mx_base.specs.declared.rows.rows.ReleaseRow.{ReleaseRow}
use Rattle.mx_base.specs.declared.rows.rows.ReleaseLineRow.{ReleaseLineRow}
use Rattle.mx_base.specs.declared.rows.rows.DeferralRow.{DeferralRow}
use Rattle.mx_base.specs.declared.rows.rows.ExtensionRow.{ExtensionRow}

-- a register: the number of the entry that a row is of, and the rows that a command would have with a number, where a book gives the numbers of the things that it names
pub record Register (Row : Type 0) : Type 0 where
  pub seq : Row → ℕ
  pub given : ℕ → List Entry → Act → List Row

-- aircraft, by what adds them
abbrev pub aircraft : Register AircraftRow
aircraft = record { seq = λ row. row.seq; given = λ n book act. if_any (aircraft_row n) (aircraft_of act) }

-- positions, on the lines of the aircraft that has them
abbrev pub places : Register PlaceRow
places = record { seq = λ row. row.seq; given = λ n book act. lines_from place_row n 1 (positions_of act) }

-- components, by what lists them
abbrev pub components : Register ComponentRow
components = record { seq = λ row. row.seq; given = λ n book act. if_any (component_row n) (component_of act) }

-- programmes, by what loads them
abbrev pub programmes : Register ProgrammeRow
programmes = record { seq = λ row. row.seq; given = λ n book act. if_any (programme_row n) (programme_of act) }

-- tasks, on the lines of their programme
abbrev pub tasks : Register TaskRow
tasks = record { seq = λ row. row.seq; given = λ n book act. lines_from task_row n 1 (tasks_of act) }

-- openings, of items by number
abbrev pub openings : Register OpeningRow
openings = record { seq = λ row. row.seq; given = λ n book act. if_any (λ o. opening_row n (or_zero (seq_of_item book o.item)) o) (opening_of act) }

-- sectors, of aircraft by number
abbrev pub sectors : Register SectorRow
sectors = record { seq = λ row. row.seq; given = λ n book act. if_any (λ s. sector_row n (or_zero (seq_of_tail book s.tail)) s) (sector_of act) }

-- fittings, of components and aircraft by number
abbrev pub fittings : Register FittingRow
fittings = record { seq = λ row. row.seq; given = λ n book act. if_any (λ f. fitting_row n (or_zero (seq_of_serial book f.serial)) (or_zero (seq_of_tail book f.tail)) f) (fitting_of act) }

-- removals, of components by number
abbrev pub removals : Register RemovalRow
removals = record { seq = λ row. row.seq; given = λ n book act. if_any (λ r. removal_row n (or_zero (seq_of_serial book r.serial)) r) (removal_of act) }

-- releases, at items by number
abbrev pub releases : Register ReleaseRow
releases = record { seq = λ row. row.seq; given = λ n book act. if_any (λ r. release_row n (or_zero (seq_of_item book (item_at r.place))) r) (release_of act) }

-- lines of releases, of items and defects by number
abbrev pub release_lines : Register ReleaseLineRow
release_lines = record { seq = λ row. row.seq; given = λ n book act. lines_from (release_line_row book) n 1 (lines_of act) }

-- deferrals, of aircraft by number
abbrev pub deferrals : Register DeferralRow
deferrals = record { seq = λ row. row.seq; given = λ n book act. if_any (λ d. deferral_row n (or_zero (seq_of_tail book d.tail)) d) (deferral_of act) }

-- extensions, of defects by number
abbrev pub extensions : Register ExtensionRow
extensions = record { seq = λ row. row.seq; given = λ n book act. if_any (λ x. extension_row n (or_zero (seq_of_defect book x.defect)) x) (extension_of act) }

-- the rows of a book
abbrev pub rows_of : {Row : Type 0} → Register Row → List Entry → List Row
rows_of register book = gives_by (λ before act. register.given (next before) before act) [] book

-- those of the entry with this number
abbrev pub found : {Row : Type 0} → Register Row → List Entry → ℕ → List Row
found register book n = filter (λ row. nat_eq (register.seq row) n) (rows_of register book)

-- they are the rows that a command would have with this number
abbrev pub Same : {Row : Type 0} → Register Row → List Entry → ℕ → Act → Type 0
Same register book n act = found register book n ≡ register.given n book act

-- in each table of its kind the rows of the entry with this number are those that a command would have with it
abbrev pub AreSame : List Entry → ℕ → Act → Type 0
AreSame book n (Added a positions) = Same aircraft book n (Added a positions) × Same places book n (Added a positions)
AreSame book n (Listed c) = Same components book n (Listed c)
AreSame book n (Loaded p ts) = Same programmes book n (Loaded p ts) × Same tasks book n (Loaded p ts)
AreSame book n (Opened o) = Same openings book n (Opened o)
AreSame book n (Flown s) = Same sectors book n (Flown s)
AreSame book n (Fitted f) = Same fittings book n (Fitted f)
AreSame book n (Removed r) = Same removals book n (Removed r)
AreSame book n (Released r lines) = Same releases book n (Released r lines) × Same release_lines book n (Released r lines)
AreSame book n (Deferred d) = Same deferrals book n (Deferred d)
AreSame book n (Extended x) = Same extensions book n (Extended x)

-- the number of what a line is of: of the item that a task was done on, or of the defect that was rectified
abbrev pub seq_of_line : List Entry → Line → Option ℕ
seq_of_line book (Done item task) = seq_of_item book item
seq_of_line book (Rectified doc) = seq_of_defect book doc

-- the row of a line, on this line of the release that the entry with this number says, where what it is of has that number
abbrev pub line_row : ℕ → ℕ → ℕ → Line → ReleaseLineRow
line_row n line number (Done item task) = record { seq = n; line = line; item = Some number; task = Some task; defect = None }
line_row n line number (Rectified doc) = record { seq = n; line = line; item = None; task = None; defect = Some number }
