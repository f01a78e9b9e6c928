-- The verdict on a command: known, refused or new.
use Rattle.std.specs.Prelude.{ℕ, ◌+◌, ◌/◌, max, nat_eq, nat_lt, nat_le, length, List, [], ◌∷◌, ◌++◌, ◌&&◌, Bool, true, false, not, ◌||◌, Option, Some, None, is_some, is_none, if◌then◌else◌}
use Rattle.std.specs.List.{list_any, flat_map}
use Rattle.std.specs.Option.{option_map, option_map_or, option_and_then}
use Rattle.mx_book.specs.commands.Act.{Act, Entry, Added, Listed, Loaded, Opened, Flown, Fitted, Removed, Released, Deferred, Extended}
use Rattle.mx_book.specs.commands.Bounds.{are_distinct}
use Rattle.mx_book.specs.commands.Same.{same_text, same_line, same_entry}
use Rattle.mx_book.specs.declared.commands.item.Item.{Item}
use Rattle.mx_book.specs.declared.commands.item.Item.TheVariants.{Airframe, Component}
use Rattle.mx_book.specs.declared.commands.release.Line.{Line}
use Rattle.mx_book.specs.declared.commands.release.Line.TheVariants.{Done, Rectified}
use Rattle.mx_book.specs.declared.commands.release.Place.{Place}
use Rattle.mx_book.specs.declared.commands.release.Place.TheVariants.{Aircraft, Shop}
use Rattle.mx_book.specs.declared.limits.TheConstants.{MOST_ENTRIES}
use Rattle.mx_book.specs.declared.verdict.Refusal.{Refusal}
use Rattle.mx_book.specs.declared.verdict.Refusal.TheVariants.{Conflict, Full, UnknownAircraft, UnknownComponent, UnknownPosition, UnknownProgramme, UnknownTask, UnknownDefect, AircraftExists, ComponentExists, PositionTaken, AlreadyFitted, NotFitted, WrongPart, ItemElsewhere, TaskClosed, LifeLimit, DefectClosed, OutOfOrder, NotExtendable, AlreadyExtended, ExtensionTooLong, IntervalEnded, WrongRevision, OtherAircraft, OpeningTooLate, OpeningTooLarge, RepeatedLine}
use Rattle.mx_book.specs.declared.verdict.Verdict.{Verdict}
use Rattle.mx_book.specs.declared.verdict.Verdict.TheVariants.{New, Already, Refused}
use Rattle.mx_book.specs.Register.{aircraft, component, part_at, is_of_part, found_of, as_of, is_other_kind_in, has_room_for_aircraft, has_room_for_component}
use Rattle.mx_book.specs.Span.{fitted, is_fitted_to, is_taken, tail_fitted}
use Rattle.mx_book.specs.Life.{clock, opening_of}
use Rattle.mx_book.specs.declared.defects.Defect.{Defect}
use Rattle.mx_book.specs.Defect.{defect, day_found, extension, interval, is_rectified, is_stated, last_permitted}
use Rattle.mx_book.specs.Programme.{tasks_in_force, task_in_force, next_revision, applies_to, tasks_at, task_at, is_accomplished, life_ended}

-- the number of a refusal
abbrev pub refusal_number : Refusal → ℕ
refusal_number (Conflict seq) = 10
refusal_number Full = 11
refusal_number UnknownAircraft = 20
refusal_number UnknownComponent = 21
refusal_number UnknownPosition = 22
refusal_number UnknownProgramme = 23
refusal_number UnknownTask = 24
refusal_number UnknownDefect = 25
refusal_number AircraftExists = 30
refusal_number ComponentExists = 31
refusal_number PositionTaken = 33
refusal_number AlreadyFitted = 34
refusal_number NotFitted = 35
refusal_number WrongPart = 36
refusal_number ItemElsewhere = 37
refusal_number TaskClosed = 38
refusal_number LifeLimit = 39
refusal_number DefectClosed = 40
refusal_number (OutOfOrder clock) = 41
refusal_number NotExtendable = 42
refusal_number AlreadyExtended = 43
refusal_number (ExtensionTooLong most) = 44
refusal_number (IntervalEnded last) = 45
refusal_number (WrongRevision expected) = 46
refusal_number OtherAircraft = 47
refusal_number OpeningTooLate = 48
refusal_number OpeningTooLarge = 49
refusal_number RepeatedLine = 52

-- ── when each refusal applies ──

-- the registration of an item that is an airframe
abbrev pub item_tails : Item → List (List ℕ)
item_tails (Airframe tail) = tail ∷ []
item_tails (Component serial) = []

-- the serial number of an item that is a component
abbrev pub item_serials : Item → List (List ℕ)
item_serials (Airframe tail) = []
item_serials (Component serial) = serial ∷ []

-- the item whose records a release at a place goes into: the airframe of the aircraft, or the component in the shop
abbrev pub item_at : Place → Item
item_at (Aircraft tail) = Airframe tail
item_at (Shop serial kind) = Component serial

-- the registration that a line of a release names
abbrev pub line_tails : Line → List (List ℕ)
line_tails (Done item task) = item_tails item
line_tails (Rectified doc) = []

-- the serial number that a line of a release names
abbrev pub line_serials : Line → List (List ℕ)
line_serials (Done item task) = item_serials item
line_serials (Rectified doc) = []

-- the document of the defect that a line of a release names
abbrev pub line_defects : Line → List (List ℕ)
line_defects (Done item task) = []
line_defects (Rectified doc) = doc ∷ []

-- the registrations that a command names
abbrev pub tails_named : Act → List (List ℕ)
tails_named (Opened o) = item_tails o.item
tails_named (Flown s) = s.tail ∷ []
tails_named (Fitted f) = f.tail ∷ []
tails_named (Released r lines) = item_tails (item_at r.place) ++ flat_map line_tails lines
tails_named (Deferred d) = d.tail ∷ []
tails_named _ = []

-- the serial numbers that a command names
abbrev pub serials_named : Act → List (List ℕ)
serials_named (Opened o) = item_serials o.item
serials_named (Fitted f) = f.serial ∷ []
serials_named (Removed r) = r.serial ∷ []
serials_named (Released r lines) = item_serials (item_at r.place) ++ flat_map line_serials lines
serials_named _ = []

-- the documents of the deferred defects that a command names
abbrev pub defects_named : Act → List (List ℕ)
defects_named (Released r lines) = flat_map line_defects lines
defects_named (Extended x) = x.defect ∷ []
defects_named _ = []

-- there is no room: 1,000,000 entries, 50 aircraft for one more, or 5,000 components for one more
abbrev pub is_full : List Entry → Act → Bool
is_full book (Added a positions) = nat_le MOST_ENTRIES (length book) || not (has_room_for_aircraft book)
is_full book (Listed c) = nat_le MOST_ENTRIES (length book) || not (has_room_for_component book)
is_full book _ = nat_le MOST_ENTRIES (length book)

-- a registration is named that no aircraft has
abbrev pub names_unknown_aircraft : List Entry → Act → Bool
names_unknown_aircraft book act = list_any (λ tail. is_none (aircraft book tail)) (tails_named act)

-- a serial number is named that no component has
abbrev pub names_unknown_component : List Entry → Act → Bool
names_unknown_component book act = list_any (λ serial. is_none (component book serial)) (serials_named act)

-- a component is fitted to a position that the aircraft does not have
abbrev pub names_unknown_position : List Entry → Act → Bool
names_unknown_position book (Fitted f) = is_none (part_at book f.tail f.position)
names_unknown_position book _ = false

-- a line certifies a task where no programme is in force
abbrev pub line_without_programme : List Entry → Place → Line → Bool
line_without_programme book place (Done item task) = is_none (tasks_at book place)
line_without_programme book place (Rectified doc) = false

-- an opening names a kind that has no programme, or a task is done where no programme is in force
abbrev pub names_unknown_programme : List Entry → Act → Bool
names_unknown_programme book (Opened o) = is_none (tasks_in_force book o.kind)
names_unknown_programme book (Released r lines) = list_any (line_without_programme book r.place) lines
names_unknown_programme book _ = false

-- a line certifies a task that is not in force at the place, or does not apply to the item
abbrev pub line_of_unknown_task : List Entry → Place → Line → Bool
line_of_unknown_task book place (Done item task) = not (option_map_or (applies_to book item) (task_at book place task) false)
line_of_unknown_task book place (Rectified doc) = false

-- an opening or a line names a task that is not in force, or does not apply to the item
abbrev pub names_unknown_task : List Entry → Act → Bool
names_unknown_task book (Opened o) = not (option_map_or (applies_to book o.item) (task_in_force book o.kind o.task) false)
names_unknown_task book (Released r lines) = list_any (line_of_unknown_task book r.place) lines
names_unknown_task book _ = false

-- a defect is named that was not deferred
abbrev pub names_unknown_defect : List Entry → Act → Bool
names_unknown_defect book act = list_any (λ doc. is_none (defect book doc)) (defects_named act)

-- an aircraft has the registration already
abbrev pub aircraft_exists : List Entry → Act → Bool
aircraft_exists book (Added a positions) = is_some (aircraft book a.tail)
aircraft_exists book _ = false

-- a component has the serial number already
abbrev pub component_exists : List Entry → Act → Bool
component_exists book (Listed c) = is_some (component book c.serial)
component_exists book _ = false

-- a component is fitted there
abbrev pub position_taken : List Entry → Act → Bool
position_taken book (Fitted f) = is_taken book f.tail f.position
position_taken book _ = false

-- the place is a shop, and its component is fitted to an aircraft
abbrev pub fitted_in_shop : List Entry → Place → Bool
fitted_in_shop book (Aircraft tail) = false
fitted_in_shop book (Shop serial kind) = is_some (fitted book serial)

-- the component that is to be fitted, or that was worked on in a shop, is fitted somewhere
abbrev pub already_fitted : List Entry → Act → Bool
already_fitted book (Fitted f) = is_some (fitted book f.serial)
already_fitted book (Released r lines) = fitted_in_shop book r.place
already_fitted book _ = false

-- the component that is to be removed is fitted nowhere
abbrev pub not_fitted : List Entry → Act → Bool
not_fitted book (Removed r) = is_none (fitted book r.serial)
not_fitted book _ = false

-- the position takes another part
abbrev pub wrong_part : List Entry → Act → Bool
wrong_part book (Fitted f) = not (option_map_or (is_of_part book f.serial) (part_at book f.tail f.position) true)
wrong_part book _ = false

-- the item is at the place: the airframe of the aircraft, a component fitted to it, or the component in the shop
abbrev pub is_at : List Entry → Place → Item → Bool
is_at book (Aircraft tail) (Airframe t) = same_text t tail
is_at book (Aircraft tail) (Component serial) = is_fitted_to book tail serial
is_at book (Shop serial kind) (Airframe tail) = false
is_at book (Shop serial kind) (Component s) = same_text s serial

-- a line certifies work on an item that is elsewhere
abbrev pub line_of_item_elsewhere : List Entry → Place → Line → Bool
line_of_item_elsewhere book place (Done item task) = not (is_at book place item)
line_of_item_elsewhere book place (Rectified doc) = false

-- a task is done on an item that is not at the place
abbrev pub item_elsewhere : List Entry → Act → Bool
item_elsewhere book (Released r lines) = list_any (line_of_item_elsewhere book r.place) lines
item_elsewhere book _ = false

-- a line certifies a task that was accomplished, and has no repeat in force at the place
abbrev pub line_of_closed_task : List Entry → Place → Line → Bool
line_of_closed_task book place (Done item task) = is_accomplished book item task && option_map_or (λ t. is_none t.repeat) (task_at book place task) true
line_of_closed_task book place (Rectified doc) = false

-- the task of the item that is opened was accomplished already, or one that is done was and is not repeated
abbrev pub task_closed : List Entry → Act → Bool
task_closed book (Opened o) = is_accomplished book o.item o.task
task_closed book (Released r lines) = list_any (line_of_closed_task book r.place) lines
task_closed book _ = false

-- a line certifies a task that retires its item
abbrev pub line_of_retirement : List Entry → Place → Line → Bool
line_of_retirement book place (Done item task) = option_map_or (λ t. t.retire) (task_at book place task) false
line_of_retirement book place (Rectified doc) = false

-- the task that is opened or done retires the item, or the component that is to be fitted is retired by a task in force for the aircraft's kind
abbrev pub at_life_limit : List Entry → Act → Bool
at_life_limit book (Opened o) = option_map_or (λ t. t.retire) (task_in_force book o.kind o.task) false
at_life_limit book (Fitted f) = option_map_or (λ a. life_ended book a.kind (Component f.serial) (f.moment / 1440)) (aircraft book f.tail) false
at_life_limit book (Released r lines) = list_any (line_of_retirement book r.place) lines
at_life_limit book _ = false

-- a defect is named that was rectified
abbrev pub defect_closed : List Entry → Act → Bool
defect_closed book act = list_any (is_rectified book) (defects_named act)

-- the clock, where the moment is before it
abbrev pub clock_passed : ℕ → ℕ → Option ℕ
clock_passed moment clock = if nat_lt moment clock then Some clock else None

-- the clock of the airframe that a component is fitted to
abbrev pub clock_where_fitted : List Entry → List ℕ → ℕ
clock_where_fitted book serial = option_map_or (λ tail. clock book (Airframe tail)) (tail_fitted book serial) 0

-- the moment at which a defect was found, where that was after a day
abbrev pub found_after : ℕ → Defect → Option ℕ
found_after day d = if nat_lt day (day_found d) then Some d.deferral.moment else None

-- the earliest moment at which an aircraft takes off for its next sector: the clock of its airframe
abbrev pub earliest_takeoff : List Entry → List ℕ → ℕ
earliest_takeoff book tail = clock book (Airframe tail)

-- the clock that a command comes before: a sector takes off before the earliest take-off of its aircraft; a fitting or a removal is before the greater of the airframe's and the component's; a release is before that of its place, and a defect found before that of its airframe; an interval is extended before the day on which the defect was found, the moment of that
abbrev pub too_early : List Entry → Act → Option ℕ
too_early book (Flown s) = clock_passed s.off (earliest_takeoff book s.tail)
too_early book (Fitted f) = clock_passed f.moment (max (clock book (Airframe f.tail)) (clock book (Component f.serial)))
too_early book (Removed r) = clock_passed r.moment (max (clock_where_fitted book r.serial) (clock book (Component r.serial)))
too_early book (Released r lines) = clock_passed r.moment (clock book (item_at r.place))
too_early book (Deferred d) = clock_passed d.moment (clock book (Airframe d.tail))
too_early book (Extended x) = option_and_then (found_after x.day) (defect book x.defect)
too_early book _ = None

-- the interval of a defect whose item states the days is not extended
abbrev pub not_extendable : List Entry → Act → Bool
not_extendable book (Extended x) = option_map_or (λ d. is_stated d.deferral.category) (defect book x.defect) false
not_extendable book _ = false

-- the interval that is to be extended was extended before
abbrev pub already_extended : List Entry → Act → Bool
already_extended book (Extended x) = is_some (extension book x.defect)
already_extended book _ = false

-- the interval of a defect, where the days are more
abbrev pub interval_exceeded : ℕ → Defect → Option ℕ
interval_exceeded days d = if nat_lt (interval d.deferral.category) days then Some (interval d.deferral.category) else None

-- an interval is extended by more days than it has: so many
abbrev pub extension_too_long : List Entry → Act → Option ℕ
extension_too_long book (Extended x) = option_and_then (interval_exceeded x.days) (defect book x.defect)
extension_too_long book _ = None

-- the last day of a defect, where a day is after it
abbrev pub last_day_passed : List Entry → ℕ → Defect → Option ℕ
last_day_passed book day d = if nat_lt (last_permitted book d) day then Some (last_permitted book d) else None

-- an interval is extended after it ended: its last day
abbrev pub interval_ended : List Entry → Act → Option ℕ
interval_ended book (Extended x) = option_and_then (last_day_passed book x.day) (defect book x.defect)
interval_ended book _ = None

-- the expected revision, where another is loaded
abbrev pub revision_missed : ℕ → ℕ → Option ℕ
revision_missed revision expected = if nat_eq revision expected then None else Some expected

-- the revision that is expected, where a programme of another is loaded
abbrev pub wrong_revision : List Entry → Act → Option ℕ
wrong_revision book (Loaded p tasks) = revision_missed p.revision (next_revision book p.kind)
wrong_revision book _ = None

-- the item is an airframe of another kind
abbrev pub is_of_other_kind : List Entry → List ℕ → Item → Bool
is_of_other_kind book kind item = is_other_kind_in kind (found_of book item)

-- the defect is of another aircraft than the one at the place, or the place is a shop
abbrev pub is_of_other_aircraft : List Entry → Place → List ℕ → Bool
is_of_other_aircraft book (Aircraft tail) doc = option_map_or (λ d. not (same_text d.deferral.tail tail)) (defect book doc) false
is_of_other_aircraft book (Shop serial kind) doc = true

-- a line certifies that a defect was rectified, which is of another aircraft
abbrev pub line_of_other_aircraft : List Entry → Place → Line → Bool
line_of_other_aircraft book place (Done item task) = false
line_of_other_aircraft book place (Rectified doc) = is_of_other_aircraft book place doc

-- a task of an airframe is opened by the programme of another kind, or a defect of another aircraft is rectified
abbrev pub other_aircraft : List Entry → Act → Bool
other_aircraft book (Opened o) = is_of_other_kind book o.kind o.item
other_aircraft book (Released r lines) = list_any (line_of_other_aircraft book r.place) lines
other_aircraft book _ = false

-- the day of an opening is after that of the item's as_of
abbrev pub opening_too_late : List Entry → Act → Bool
opening_too_late book (Opened o) = nat_lt (as_of book o.item / 1440) o.day
opening_too_late book _ = false

-- an opening has more minutes or more cycles than the item brought with it
abbrev pub opening_too_large : List Entry → Act → Bool
opening_too_large book (Opened o) =
    option_map_or (λ u. nat_lt u.minutes o.use_then.minutes || nat_lt u.cycles o.use_then.cycles) (opening_of book o.item) false
opening_too_large book _ = false

-- two lines of a release are equal
abbrev pub repeats_line : List Entry → Act → Bool
repeats_line book (Released r lines) = not (are_distinct same_line lines)
repeats_line book _ = false

-- the refusal, where it applies
abbrev pub when : Bool → Refusal → Option Refusal
when true refusal = Some refusal
when false refusal = None

-- the refusals of a command whose document is new, in the order of their numbers, each where it applies
abbrev pub refusals : List Entry → Act → List (Option Refusal)
refusals book act =
    when (is_full book act) Full
    ∷ when (names_unknown_aircraft book act) UnknownAircraft
    ∷ when (names_unknown_component book act) UnknownComponent
    ∷ when (names_unknown_position book act) UnknownPosition
    ∷ when (names_unknown_programme book act) UnknownProgramme
    ∷ when (names_unknown_task book act) UnknownTask
    ∷ when (names_unknown_defect book act) UnknownDefect
    ∷ when (aircraft_exists book act) AircraftExists
    ∷ when (component_exists book act) ComponentExists
    ∷ when (position_taken book act) PositionTaken
    ∷ when (already_fitted book act) AlreadyFitted
    ∷ when (not_fitted book act) NotFitted
    ∷ when (wrong_part book act) WrongPart
    ∷ when (item_elsewhere book act) ItemElsewhere
    ∷ when (task_closed book act) TaskClosed
    ∷ when (at_life_limit book act) LifeLimit
    ∷ when (defect_closed book act) DefectClosed
    ∷ option_map OutOfOrder (too_early book act)
    ∷ when (not_extendable book act) NotExtendable
    ∷ when (already_extended book act) AlreadyExtended
    ∷ option_map ExtensionTooLong (extension_too_long book act)
    ∷ option_map IntervalEnded (interval_ended book act)
    ∷ option_map WrongRevision (wrong_revision book act)
    ∷ when (other_aircraft book act) OtherAircraft
    ∷ when (opening_too_late book act) OpeningTooLate
    ∷ when (opening_too_large book act) OpeningTooLarge
    ∷ when (repeats_line book act) RepeatedLine
    ∷ []

-- the first refusal that applies
abbrev pub first_of : List (Option Refusal) → Option Refusal
first_of [] = None
first_of (None ∷ others) = first_of others
first_of (Some refusal ∷ others) = Some refusal

-- ── the verdict ──

-- the entry with this document and its number, where the entries are numbered from k
abbrev pub known_from : List ℕ → ℕ → List Entry → Option (ℕ × Entry)
known_from doc k [] = None
known_from doc k (entry ∷ book) = if same_text entry.doc doc then Some (k, entry) else known_from doc (k + 1) book

-- a refusal where there is one, else new
abbrev pub verdict_of : Option Refusal → Verdict
verdict_of None = New
verdict_of (Some refusal) = Refused refusal

-- the verdict, where the entry with the command's document is found or not
abbrev pub judge_by : List Entry → Entry → Option (ℕ × Entry) → Verdict
judge_by book command (Some known) = if same_entry known.1 command then Already known.0 else Refused (Conflict known.0)
judge_by book command None = verdict_of (first_of (refusals book command.act))

-- the verdict on a command: Already where an entry has its document and equal contents, else the first refusal, else New
abbrev pub judge : List Entry → Entry → Verdict
judge book command = judge_by book command (known_from command.doc 1 book)
