-- What a command says, with lists where the code has vectors.
use Rattle.std.specs.Prelude.{ℕ, List, [], Option, Some, None}
use Rattle.mx_book.specs.declared.commands.aircraft.Aircraft.{Aircraft}
use Rattle.mx_book.specs.declared.commands.component.Component.{Component}
use Rattle.mx_book.specs.declared.commands.programme.Programme.{Programme}
use Rattle.mx_book.specs.declared.commands.programme.Task.{Task}
use Rattle.mx_book.specs.declared.commands.opening.Opening.{Opening}
use Rattle.mx_book.specs.declared.commands.sector.Sector.{Sector}
use Rattle.mx_book.specs.declared.commands.fitting.Fitting.{Fitting}
use Rattle.mx_book.specs.declared.commands.fitting.Removal.{Removal}
use Rattle.mx_book.specs.declared.commands.release.Release.{Release}
use Rattle.mx_book.specs.declared.commands.release.Line.{Line}
use Rattle.mx_book.specs.declared.commands.deferral.Deferral.{Deferral}
use Rattle.mx_book.specs.declared.commands.deferral.Extension.{Extension}
use Rattle.mx_book.specs.declared.commands.body.Body.{Body}
use Rattle.mx_book.specs.declared.commands.body.Body.TheVariants as bodies

-- what a command says, a case for each kind of command: an aircraft with its positions was added, a component was listed, a programme with its tasks was loaded, a task of an item was opened, a sector was flown, a component was fitted or removed, work was released with its lines, a defect was deferred, the interval of one was extended
pub data Act : Type 0 where
  Added : Aircraft → List (List ℕ × List ℕ) → Act
  Listed : Component → Act
  Loaded : Programme → List Task → Act
  Opened : Opening → Act
  Flown : Sector → Act
  Fitted : Fitting → Act
  Removed : Removal → Act
  Released : Release → List Line → Act
  Deferred : Deferral → Act
  Extended : Extension → Act

-- a command, which once accepted is an entry: its document, and what it says
pub record Entry : Type 0 where
  pub doc : List ℕ
  pub act : Act

-- what a body says
abbrev pub act_of : Body → Act
act_of (bodies.AddAircraft tail kind birth opening as_of positions) = Added (record { tail = tail; kind = kind; birth = birth; opening = opening; as_of = as_of }) positions.items
act_of (bodies.AddComponent serial part birth opening as_of) = Listed (record { serial = serial; part = part; birth = birth; opening = opening; as_of = as_of })
act_of (bodies.LoadProgramme kind revision tasks) = Loaded (record { kind = kind; revision = revision }) tasks.items
act_of (bodies.Opening item kind task use_then day) = Opened (record { item = item; kind = kind; task = task; use_then = use_then; day = day })
act_of (bodies.Sector tail page line off on cycles) = Flown (record { tail = tail; page = page; line = line; off = off; on = on; cycles = cycles })
act_of (bodies.Fit serial tail position moment) = Fitted (record { serial = serial; tail = tail; position = position; moment = moment })
act_of (bodies.Remove serial moment) = Removed (record { serial = serial; moment = moment })
act_of (bodies.Release place moment lines) = Released (record { place = place; moment = moment }) lines.items
act_of (bodies.Defer tail moment reference category) = Deferred (record { tail = tail; moment = moment; reference = reference; category = category })
act_of (bodies.Extend defect day days) = Extended (record { defect = defect; day = day; days = days })

-- the aircraft, where one was added
abbrev pub aircraft_of : Act → Option Aircraft
aircraft_of (Added aircraft positions) = Some aircraft
aircraft_of _ = None

-- the positions of the aircraft, each with the part that it takes, where one was added
abbrev pub positions_of : Act → List (List ℕ × List ℕ)
positions_of (Added aircraft positions) = positions
positions_of _ = []

-- the component, where one was listed
abbrev pub component_of : Act → Option Component
component_of (Listed component) = Some component
component_of _ = None

-- the revision of a programme, where one was loaded
abbrev pub programme_of : Act → Option Programme
programme_of (Loaded programme tasks) = Some programme
programme_of _ = None

-- the tasks of the programme, where one was loaded
abbrev pub tasks_of : Act → List Task
tasks_of (Loaded programme tasks) = tasks
tasks_of _ = []

-- the opening, where a task was opened
abbrev pub opening_of : Act → Option Opening
opening_of (Opened opening) = Some opening
opening_of _ = None

-- the sector, where one was flown
abbrev pub sector_of : Act → Option Sector
sector_of (Flown sector) = Some sector
sector_of _ = None

-- the fitting, where a component was fitted
abbrev pub fitting_of : Act → Option Fitting
fitting_of (Fitted fitting) = Some fitting
fitting_of _ = None

-- the removal, where a component was removed
abbrev pub removal_of : Act → Option Removal
removal_of (Removed removal) = Some removal
removal_of _ = None

-- the release, where work was released
abbrev pub release_of : Act → Option Release
release_of (Released release lines) = Some release
release_of _ = None

-- the lines of the release, where work was released
abbrev pub lines_of : Act → List Line
lines_of (Released release lines) = lines
lines_of _ = []

-- the deferral, where a defect was deferred
abbrev pub deferral_of : Act → Option Deferral
deferral_of (Deferred deferral) = Some deferral
deferral_of _ = None

-- the extension, where the interval of a defect was extended
abbrev pub extension_of : Act → Option Extension
extension_of (Extended extension) = Some extension
extension_of _ = None
