-- The rows of the registers and of the kept tables: their kinds and categories by number, and which rows can be kept in columns.
use Rattle.std.specs.Prelude.{ℕ, ◌+◌, ◌*◌, ◌<◌, ◌≤◌, ◌^◌, List, ◌∷◌, Option, Some, None, IfSome}
use Rattle.mx_base.specs.Calendar.{last_day, last_moment}
use Rattle.mx_base.specs.Identifier.{IsIdentifier, is_graphic, is_tail_character}
use Rattle.mx_base.specs.declared.amounts.Base.{Base}
use Rattle.mx_base.specs.declared.amounts.Limit.{Limit}
use Rattle.mx_base.specs.declared.amounts.Tolerance.{Tolerance}
use Rattle.mx_base.specs.declared.amounts.Use.{Use}
use Rattle.mx_base.specs.declared.category.Category.{Category}
use Rattle.mx_base.specs.declared.category.Category.TheVariants.{A, B, C, D}
use Rattle.mx_base.specs.declared.rows.rows.EntryKind.{EntryKind}
use Rattle.mx_base.specs.declared.rows.rows.EntryKind.TheVariants.{AddAircraft, AddComponent, LoadProgramme, Opening, Sector, Fit, Remove, Release, Defer, Extend}
use Rattle.mx_base.specs.declared.rows.rows.EntryRow.{EntryRow}
use Rattle.mx_base.specs.declared.rows.rows.AircraftRow.{AircraftRow}
use Rattle.mx_base.specs.declared.rows.rows.PlaceRow.{PlaceRow}
use Rattle.mx_base.specs.declared.rows.rows.ComponentRow.{ComponentRow}
use Rattle.mx_base.specs.declared.rows.rows.SectorRow.{SectorRow}
use Rattle.mx_base.specs.declared.rows.rows.FittingRow.{FittingRow}
use Rattle.mx_base.specs.declared.rows.rows.RemovalRow.{RemovalRow}
use Rattle.mx_base.specs.declared.rows.rows.ProgrammeRow.{ProgrammeRow}
use Rattle.mx_base.specs.declared.rows.rows.TaskRow.{TaskRow}
use Rattle.mx_base.specs.declared.rows.rows.OpeningRow.{OpeningRow}
use Rattle.mx_base.specs.declared.rows.rows.ReleaseRow.{ReleaseRow}
use Rattle.mx_base.specs.declared.rows.rows.ReleaseLineRow.{ReleaseLineRow}
use Rattle.mx_base.specs.declared.rows.rows.DeferralRow.{DeferralRow}
use Rattle.mx_base.specs.declared.rows.rows.Deferral3Row.{Deferral3Row}
use Rattle.mx_base.specs.declared.rows.rows.ExtensionRow.{ExtensionRow}
use Rattle.mx_base.specs.declared.rows.rows.SpanRow.{SpanRow}
use Rattle.mx_base.specs.declared.rows.rows.TotalRow.{TotalRow}
use Rattle.mx_base.specs.declared.rows.rows.BaseRow.{BaseRow}
use Rattle.mx_base.specs.declared.rows.rows.DoneRow.{DoneRow}

-- the number of a kind of entry, in the order of the commands
abbrev pub kind_number : EntryKind → ℕ
kind_number AddAircraft = 1
kind_number AddComponent = 2
kind_number LoadProgramme = 3
kind_number Opening = 4
kind_number Sector = 5
kind_number Fit = 6
kind_number Remove = 7
kind_number Release = 8
kind_number Defer = 9
kind_number Extend = 10

-- the number of a category, in the order of the letters
abbrev pub category_number : Category → ℕ
category_number (A days) = 1
category_number B = 2
category_number C = 3
category_number D = 4

-- the days within which a defect is rectified, where the item of the minimum equipment list states them
abbrev pub days_stated : Category → Option ℕ
days_stated (A days) = Some days
days_stated _ = None

-- the place of a line of an entry's list among the lines of all: by the number of the entry, and then by the line
abbrev pub line_key : ℕ → ℕ → ℕ
line_key seq line = seq * 2 ^ 32 + line

-- the place of a position among all: by the number of the aircraft's entry, and then by its line
abbrev pub place_key : PlaceRow → ℕ
place_key row = line_key row.seq row.line

-- the place of a task among all: by the number of the programme's entry, and then by its line
abbrev pub task_key : TaskRow → ℕ
task_key row = line_key row.seq row.line

-- the place of a line of a release among all: by the number of the release's entry, and then by its line
abbrev pub release_line_key : ReleaseLineRow → ℕ
release_line_key row = line_key row.seq row.line

-- the key of a last base: the number of its item, and its task
abbrev pub base_key : BaseRow → List ℕ
base_key row = row.item ∷ row.task

-- the base in the row of a last base
abbrev pub base_in_row : BaseRow → Base
base_in_row row = record { minutes = row.life.minutes; cycles = row.life.cycles; day = row.day }

-- the row of this base of a task, of the item with this number
abbrev pub base_row_with : ℕ → List ℕ → Base → BaseRow
base_row_with number task base = record { item = number; task = task; life = record { minutes = base.minutes; cycles = base.cycles }; day = base.day }

-- the number has 32 bits and the document is one
pub record FitsEntry (row : EntryRow) : Type 0 where
  pub seq : row.seq < 2 ^ 32
  pub doc : IsIdentifier is_graphic 40 row.doc

-- the numbers have 32 bits, the texts are identifiers, and day and moment are in the calendar
pub record FitsAircraft (row : AircraftRow) : Type 0 where
  pub seq : row.seq < 2 ^ 32
  pub tail : IsIdentifier is_tail_character 8 row.tail
  pub kind : IsIdentifier is_graphic 16 row.kind
  pub birth : row.birth ≤ last_day
  pub minutes : row.minutes < 2 ^ 32
  pub cycles : row.cycles < 2 ^ 32
  pub as_of : row.as_of ≤ last_moment

-- the numbers have 32 bits, and the texts are identifiers
pub record FitsPlace (row : PlaceRow) : Type 0 where
  pub seq : row.seq < 2 ^ 32
  pub line : row.line < 2 ^ 32
  pub position : IsIdentifier is_graphic 16 row.position
  pub part : IsIdentifier is_graphic 16 row.part

-- the numbers have 32 bits, the texts are identifiers, and day and moment are in the calendar
pub record FitsComponent (row : ComponentRow) : Type 0 where
  pub seq : row.seq < 2 ^ 32
  pub serial : IsIdentifier is_graphic 16 row.serial
  pub part : IsIdentifier is_graphic 16 row.part
  pub birth : row.birth ≤ last_day
  pub minutes : row.minutes < 2 ^ 32
  pub cycles : row.cycles < 2 ^ 32
  pub as_of : row.as_of ≤ last_moment

-- the numbers have 32 bits, and the moments are in the calendar
pub record FitsSector (row : SectorRow) : Type 0 where
  pub seq : row.seq < 2 ^ 32
  pub aircraft : row.aircraft < 2 ^ 32
  pub page : row.page < 2 ^ 32
  pub line : row.line < 2 ^ 32
  pub took_off : row.took_off ≤ last_moment
  pub landed : row.landed ≤ last_moment
  pub cycles : row.cycles < 2 ^ 32

-- the numbers have 32 bits, the position is an identifier, and the moment is in the calendar
pub record FitsFitting (row : FittingRow) : Type 0 where
  pub seq : row.seq < 2 ^ 32
  pub component : row.component < 2 ^ 32
  pub aircraft : row.aircraft < 2 ^ 32
  pub position : IsIdentifier is_graphic 16 row.position
  pub moment : row.moment ≤ last_moment

-- the numbers have 32 bits, and the moment is in the calendar
pub record FitsRemoval (row : RemovalRow) : Type 0 where
  pub seq : row.seq < 2 ^ 32
  pub component : row.component < 2 ^ 32
  pub moment : row.moment ≤ last_moment

-- the numbers have 32 bits, and the kind is an identifier
pub record FitsProgramme (row : ProgrammeRow) : Type 0 where
  pub seq : row.seq < 2 ^ 32
  pub kind : IsIdentifier is_graphic 16 row.kind
  pub revision : row.revision < 2 ^ 32

-- the numbers that it has have 32 bits
pub record FitsLimit (limit : Limit) : Type 0 where
  pub minutes : IfSome limit.minutes (λ n. n < 2 ^ 32)
  pub cycles : IfSome limit.cycles (λ n. n < 2 ^ 32)
  pub days : IfSome limit.days (λ n. n < 2 ^ 32)

-- the numbers have 32 bits
pub record FitsTolerance (tolerance : Tolerance) : Type 0 where
  pub minutes : tolerance.minutes < 2 ^ 32
  pub cycles : tolerance.cycles < 2 ^ 32
  pub days : tolerance.days < 2 ^ 32

-- the numbers have 32 bits, those of the limits where there are any, and the texts are identifiers, the part's where there is one
pub record FitsTask (row : TaskRow) : Type 0 where
  pub seq : row.seq < 2 ^ 32
  pub line : row.line < 2 ^ 32
  pub id : IsIdentifier is_graphic 16 row.id
  pub part : IfSome row.part (IsIdentifier is_graphic 16)
  pub first : FitsLimit row.first
  pub repeat : FitsLimit row.repeat
  pub tolerance : FitsTolerance row.tolerance

-- the numbers have 32 bits, the texts are identifiers, and the day is in the calendar
pub record FitsOpening (row : OpeningRow) : Type 0 where
  pub seq : row.seq < 2 ^ 32
  pub item : row.item < 2 ^ 32
  pub kind : IsIdentifier is_graphic 16 row.kind
  pub task : IsIdentifier is_graphic 16 row.task
  pub minutes : row.minutes < 2 ^ 32
  pub cycles : row.cycles < 2 ^ 32
  pub day : row.day ≤ last_day

-- the numbers have 32 bits, the kind is an identifier where there is one, and the moment is in the calendar
pub record FitsRelease (row : ReleaseRow) : Type 0 where
  pub seq : row.seq < 2 ^ 32
  pub item : row.item < 2 ^ 32
  pub kind : IfSome row.kind (IsIdentifier is_graphic 16)
  pub moment : row.moment ≤ last_moment

-- the numbers have 32 bits, and the task is an identifier, those that there are
pub record FitsReleaseLine (row : ReleaseLineRow) : Type 0 where
  pub seq : row.seq < 2 ^ 32
  pub line : row.line < 2 ^ 32
  pub item : IfSome row.item (λ n. n < 2 ^ 32)
  pub task : IfSome row.task (IsIdentifier is_graphic 16)
  pub defect : IfSome row.defect (λ n. n < 2 ^ 32)

-- the days of the category have 32 bits, where it states them
abbrev pub FitsCategory : Category → Type 0
FitsCategory category = IfSome (days_stated category) (λ n. n < 2 ^ 32)

-- the numbers have 32 bits, those of the category where there are any, the moment is in the calendar, and the reference is an identifier
pub record FitsDeferral (row : DeferralRow) : Type 0 where
  pub seq : row.seq < 2 ^ 32
  pub aircraft : row.aircraft < 2 ^ 32
  pub moment : row.moment ≤ last_moment
  pub reference : IsIdentifier is_graphic 16 row.reference
  pub category : FitsCategory row.category

-- the deferral fits, and the cycles have 32 bits
pub record FitsDeferral3 (row : Deferral3Row) : Type 0 where
  pub deferral : FitsDeferral row.deferral
  pub found_cycles : row.found_cycles < 2 ^ 32

-- the numbers have 32 bits, and the day is in the calendar
pub record FitsExtension (row : ExtensionRow) : Type 0 where
  pub seq : row.seq < 2 ^ 32
  pub defect : row.defect < 2 ^ 32
  pub day : row.day ≤ last_day
  pub days : row.days < 2 ^ 32

-- the numbers have 32 bits, those of the removal where there is one, the position is an identifier, and the moments are in the calendar
pub record FitsSpan (row : SpanRow) : Type 0 where
  pub fit_seq : row.fit_seq < 2 ^ 32
  pub component : row.component < 2 ^ 32
  pub aircraft : row.aircraft < 2 ^ 32
  pub position : IsIdentifier is_graphic 16 row.position
  pub from : row.from ≤ last_moment
  pub remove_seq : IfSome row.remove_seq (λ n. n < 2 ^ 32)
  pub to : IfSome row.to (λ moment. moment ≤ last_moment)

-- the numbers have 32 bits
pub record FitsUse (use_then : Use) : Type 0 where
  pub minutes : use_then.minutes < 2 ^ 32
  pub cycles : use_then.cycles < 2 ^ 32

-- the numbers have 32 bits, and the clock is in the calendar
pub record FitsTotal (row : TotalRow) : Type 0 where
  pub item : row.item < 2 ^ 32
  pub life : FitsUse row.life
  pub clock : row.clock ≤ last_moment

-- the numbers have 32 bits, and the day is in the calendar
pub record FitsBaseValue (base : Base) : Type 0 where
  pub minutes : base.minutes < 2 ^ 32
  pub cycles : base.cycles < 2 ^ 32
  pub day : base.day ≤ last_day

-- the numbers have 32 bits, the task is an identifier, and the day is in the calendar
pub record FitsBase (row : BaseRow) : Type 0 where
  pub item : row.item < 2 ^ 32
  pub task : IsIdentifier is_graphic 16 row.task
  pub base : FitsBaseValue (base_in_row row)

-- the numbers have 32 bits, those of the due where there are any, the task is an identifier, and the days are in the calendar
pub record FitsDone (row : DoneRow) : Type 0 where
  pub item : row.item < 2 ^ 32
  pub task : IsIdentifier is_graphic 16 row.task
  pub seq : row.seq < 2 ^ 32
  pub line : row.line < 2 ^ 32
  pub value : FitsBaseValue row.value
  pub due : FitsLimit row.due
  pub base : FitsBaseValue row.base
