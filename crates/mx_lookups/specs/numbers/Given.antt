-- What each look-up that goes through tables answers over any rows.
use Rattle.std.specs.Prelude.{◌≡◌, ◌⊎◌, ◌&&◌, ℕ, false, true, pos, List, [], map, Bool, Option, Some, None, IsSome, IsSomeAnd, is_some, length, nat_eq, nat_lt, slice_get}
use Rattle.std.specs.HashSet.{HashSet, contains}
use Rattle.std.specs.Option.{option_map, option_map_or}
use Rattle.sqlite.specs.declared.types.Value.TheVariants.{Int, Text}
use Rattle.sqlite.specs.Order.{Row}
use Rattle.sqlite.specs.Tree.{Trees}
use Rattle.mx_base.specs.declared.amounts.Base.{Base}
use Rattle.mx_base.specs.declared.amounts.Use.{Use}
use Rattle.mx_book.specs.declared.commands.deferral.Extension.{Extension}
use Rattle.mx_book.specs.declared.commands.item.Item.{Item}
use Rattle.mx_book.specs.declared.commands.item.Item.TheVariants.{Airframe, Component}
use Rattle.mx_book.specs.declared.commands.programme.Task.{Task}
use Rattle.mx_book.specs.declared.defects.Defect.{Defect}
use Rattle.mx_book.specs.declared.found.Found.TheVariants as founds
use Rattle.mx_base.specs.declared.rows.rows.DeferralRow.{DeferralRow}
use Rattle.mx_base.specs.declared.rows.rows.SpanRow.{SpanRow}
use Rattle.mx_base.specs.declared.rows.rows.TaskRow.{TaskRow}
use Rattle.mx_registers.specs.Merge.{task_said}
use Rattle.mx_layout.specs.TableName.{TableName}
use Rattle.mx_layout.specs.Contents.{rows_in}
use Rattle.mx_layout.specs.Names.{table_named}
use Rattle.mx_layout.specs.kept.Cells.{kept_aircraft, kept_base2, kept_component, kept_crs_line, kept_defect, kept_entry, kept_extension, kept_place, kept_programme, kept_span2, kept_task, kept_total2}
use Rattle.mx_table_rows.specs.chosen.Choices.{has_value, is_any, is_open}
use Rattle.mx_row_rules.specs.found.Defects.{deferral_aircraft, defect_in, defect_said, extension_in, is_rectified_in}
use Rattle.mx_row_rules.specs.found.Lives.{base_found, clock_in, life_in}
use Rattle.mx_row_rules.specs.found.Names.{aircraft_number, component_number, deferral_number, doc_in, serial_in, tail_in}
use Rattle.mx_row_rules.specs.found.Programmes.{is_retired_in, programme_number, revision_after, task_in}
use Rattle.mx_row_rules.specs.found.Said.{aircraft_in, component_in, part_in}
use Rattle.mx_row_rules.specs.found.Spans.{is_taken_in, span_aircraft}
use Rattle.mx_lookups.specs.numbers.AnyRows.{AreChosen, Gives, GivesBy, GivesEach}
use Rattle.mx_lookups.specs.numbers.InForce.{born_as}

-- the number of the aircraft with this registration
abbrev pub AircraftNumber : List ℕ → Trees → Option ℕ → Type 0
AircraftNumber tail = Gives kept_aircraft (has_value 1 (Text tail)) aircraft_number

-- the number of the component with this serial number
abbrev pub ComponentNumber : List ℕ → Trees → Option ℕ → Type 0
ComponentNumber serial = Gives kept_component (has_value 1 (Text serial)) component_number

-- the number of the item
abbrev pub ItemNumber : Item → Trees → Option ℕ → Type 0
ItemNumber (Airframe tail) = AircraftNumber tail
ItemNumber (Component serial) = ComponentNumber serial

-- the number of the entry with this document that defers a defect
abbrev pub DefectNumber : List ℕ → Trees → Option ℕ → Type 0
DefectNumber doc = Gives kept_entry (has_value 1 (Text doc)) deferral_number

-- the document of the entry with this number
abbrev pub DocOfNumber : ℕ → Trees → Option (List ℕ) → Type 0
DocOfNumber n = Gives kept_entry (has_value 0 (Int (pos n))) doc_in

-- the serial number of the component with this number
abbrev pub SerialOfNumber : ℕ → Trees → Option (List ℕ) → Type 0
SerialOfNumber n = Gives kept_component (has_value 0 (Int (pos n))) serial_in

-- whether a line of a release has the number of the defect
abbrev pub IsRectifiedAt : ℕ → Trees → Bool → Type 0
IsRectifiedAt n = Gives kept_crs_line (has_value 4 (Int (pos n))) is_rectified_in

-- the document of the entry with the number of the defect, where no line has that number
abbrev pub DocIfOpen : ℕ → Trees → Option (Option (List ℕ)) → Type 0
DocIfOpen n trees None = IsRectifiedAt n trees true
DocIfOpen n trees (Some doc) = IsRectifiedAt n trees false × DocOfNumber n trees doc

-- the registration of the aircraft with this number
abbrev pub TailOfNumber : ℕ → Trees → Option (List ℕ) → Type 0
TailOfNumber n = Gives kept_aircraft (has_value 0 (Int (pos n))) tail_in

-- the part that the position takes, by the number of the aircraft
abbrev pub PartAt : List ℕ → List ℕ → Trees → Option (List ℕ) → Type 0
PartAt tail position = GivesBy (AircraftNumber tail) None (λ n. Gives kept_place (has_value 0 (Int (pos n))) (λ rows. part_in rows position))

-- whether an open span with the number of the aircraft is in the position
abbrev pub IsTaken : List ℕ → List ℕ → Trees → Bool → Type 0
IsTaken tail position = GivesBy (AircraftNumber tail) false (λ n. Gives kept_span2 (is_open 2 (Int (pos n))) (is_taken_in position))

-- the number of the aircraft in the open span with the number of the component
abbrev pub NumberFitted : List ℕ → Trees → Option ℕ → Type 0
NumberFitted serial = GivesBy (ComponentNumber serial) None (λ n. Gives kept_span2 (is_open 1 (Int (pos n))) span_aircraft)

-- the registration of the aircraft in that span, which is there
abbrev pub TailFitted : List ℕ → Trees → Option (List ℕ) → Type 0
TailFitted serial = GivesBy (NumberFitted serial) None (λ n trees tail. IsSome tail × TailOfNumber n trees tail)

-- the open span with the number of the component
abbrev pub SpanFitted : List ℕ → Trees → Option SpanRow → Type 0
SpanFitted serial = GivesBy (ComponentNumber serial) None (λ n. Gives kept_span2 (is_open 1 (Int (pos n))) (λ rows. slice_get rows 0))

-- the registration of the aircraft with the number that it names, which is there, and its position
abbrev pub PlaceFitted : List ℕ → Trees → Option (List ℕ × List ℕ) → Type 0
PlaceFitted serial = GivesBy (SpanFitted serial) None (λ row trees place. (tail : List ℕ) × TailOfNumber row.aircraft trees (Some tail) × (place ≡ Some (tail, row.position)))

-- the clock in the total with the number of the item, which is there; the first moment where the item is not
abbrev pub ClockOf : Item → Trees → ℕ → Type 0
ClockOf item = GivesBy (ItemNumber item) 0 (λ n trees moment. Gives kept_total2 (has_value 0 (Int (pos n))) clock_in trees (Some moment))

-- the life in the total with the number of the item, which is there
abbrev pub LifeOf : Item → Trees → Option Use → Type 0
LifeOf item = GivesBy (ItemNumber item) None (λ n trees life. IsSome life × Gives kept_total2 (has_value 0 (Int (pos n))) life_in trees life)

-- the revision behind that of the last programme of the kind
abbrev pub NextRevision : List ℕ → Trees → ℕ → Type 0
NextRevision kind = Gives kept_programme (has_value 1 (Text kind)) revision_after

-- the number of that programme
abbrev pub ProgrammeNumber : List ℕ → Trees → Option ℕ → Type 0
ProgrammeNumber kind = Gives kept_programme (has_value 1 (Text kind)) programme_number

-- the tasks with its number, as rows; none without a programme
abbrev pub RowsInForce : List ℕ → Trees → Option (List TaskRow) → Type 0
RowsInForce kind = GivesBy (ProgrammeNumber kind) None (λ n. Gives kept_task (has_value 0 (Int (pos n))) Some)

-- the tasks that those rows say, none without a programme
abbrev pub TasksInForce : List ℕ → Trees → List Task → Type 0
TasksInForce kind trees tasks = (rows : Option (List TaskRow)) × RowsInForce kind trees rows × (tasks ≡ option_map_or (map task_said) rows [])

-- the task with the name that those rows say
abbrev pub TaskOf : List ℕ → List ℕ → Trees → Option (Option Task) → Type 0
TaskOf kind id trees found = (rows : Option (List TaskRow)) × RowsInForce kind trees rows × (found ≡ option_map (λ rows. task_in rows id) rows)

-- the part that the row of the item says, none of an airframe, and the day on which it was built
abbrev pub BornOf : Item → Trees → Option (Option (List ℕ) × ℕ) → Type 0
BornOf (Airframe tail) = Gives kept_aircraft (has_value 1 (Text tail)) (λ rows. born_as (founds.Airframe (aircraft_in rows)))
BornOf (Component serial) = Gives kept_component (has_value 1 (Text serial)) (λ rows. born_as (founds.Component (component_in rows)))

-- whether one of the tasks in force retires what was built so, with the life that it has: none does where the item, or a programme, is not there
abbrev pub IsRetired : List ℕ → Item → ℕ → Trees → Bool → Type 0
IsRetired kind item day = GivesBy (BornOf item) false (λ born. GivesBy (LifeOf item) false (λ life. GivesBy (RowsInForce kind) false (λ rows trees ended. ended ≡ is_retired_in born.0 born.1 life day rows)))

-- the position of a span, and the serial number of the component with the number that it names, which is there
abbrev pub PlaceSaid : Trees → SpanRow → Option (List ℕ × List ℕ) → Type 0
PlaceSaid trees row said = (serial : List ℕ) × SerialOfNumber row.component trees (Some serial) × (said ≡ Some (row.position, serial))

-- what is fitted to the aircraft with this number: what each open span with that number says
abbrev pub PlacesAt : ℕ → Trees → List (List ℕ × List ℕ) → Type 0
PlacesAt n = GivesEach kept_span2 (is_open 2 (Int (pos n))) PlaceSaid

-- what is fitted to the aircraft with this registration, nothing where it is not there
abbrev pub FittedTo : List ℕ → Trees → List (List ℕ × List ℕ) → Type 0
FittedTo tail = GivesBy (AircraftNumber tail) [] PlacesAt

-- the defect that the deferral with its number and the aircraft with the number that this names say, which are there
abbrev pub DefectOf : List ℕ → Trees → Option Defect → Type 0
DefectOf doc = GivesBy (DefectNumber doc) None (λ n trees found. (rows : List DeferralRow) × AreChosen kept_defect None kept_defect.order (has_value 0 (Int (pos n))) trees rows
    × IsSomeAnd (deferral_aircraft rows) (λ m. Gives kept_aircraft (has_value 0 (Int (pos m))) (defect_in doc rows) trees found) × IsSome found)

-- whether a line of a release has its number
abbrev pub IsRectified : List ℕ → Trees → Bool → Type 0
IsRectified doc = GivesBy (DefectNumber doc) false IsRectifiedAt

-- the extension with its number
abbrev pub ExtensionOf : List ℕ → Trees → Option Extension → Type 0
ExtensionOf doc = GivesBy (DefectNumber doc) None (λ n. Gives kept_extension (has_value 1 (Int (pos n))) (extension_in doc))

-- the defect that a deferral says of the aircraft with this registration, with the document of its entry, which is there; nothing where a line has its number
abbrev pub OpenSaid : List ℕ → Trees → DeferralRow → Option Defect → Type 0
OpenSaid tail trees row said = (doc : Option (List ℕ)) × DocIfOpen row.seq trees (option_map Some doc) × (said ≡ option_map (λ d. defect_said d tail row) doc)

-- the open defects of the aircraft with this number: what each deferral with that number says
abbrev pub DefectsAt : List ℕ → ℕ → Trees → List Defect → Type 0
DefectsAt tail n = GivesEach kept_defect (has_value 1 (Int (pos n))) (OpenSaid tail)

-- the open defects of the aircraft with this registration, none where it is not there
abbrev pub OpenDefects : List ℕ → Trees → List Defect → Type 0
OpenDefects tail = GivesBy (AircraftNumber tail) [] (DefectsAt tail)

-- the defect that a deferral says, with the document of its entry and the registration of the aircraft with the number that it names; nothing where one of these is not there
abbrev pub DefectOfRow : DeferralRow → Trees → Option Defect → Type 0
DefectOfRow row trees None = DocOfNumber row.seq trees None ⊎ ((doc : List ℕ) × DocOfNumber row.seq trees (Some doc) × TailOfNumber row.aircraft trees None)
DefectOfRow row trees (Some defect) = (doc : List ℕ) × (tail : List ℕ) × DocOfNumber row.seq trees (Some doc) × TailOfNumber row.aircraft trees (Some tail) × (defect ≡ defect_said doc tail row)

-- these are the numbers of the defects that lines have
abbrev pub AreRectified : {S : Type 0} → HashSet ℕ S → Trees → Type 0
AreRectified defects trees = (n : ℕ) → IsRectifiedAt n trees (contains nat_eq defects n)

-- that defect as it is said: that it is not where its entry or its aircraft is not there, and nothing where a line has its number
abbrev pub DefectIfOpen : DeferralRow → Trees → Option (Option Defect) → Type 0
DefectIfOpen row trees None = IsRectifiedAt row.seq trees true
DefectIfOpen row trees (Some None) = DocIfOpen row.seq trees (Some None) ⊎ ((doc : List ℕ) × DocIfOpen row.seq trees (Some (Some doc)) × TailOfNumber row.aircraft trees None)
DefectIfOpen row trees (Some (Some defect)) = (doc : List ℕ) × (tail : List ℕ) × DocIfOpen row.seq trees (Some (Some doc)) × TailOfNumber row.aircraft trees (Some tail) × (defect ≡ defect_said doc tail row)

-- the defect that a deferral says so, where its entry and its aircraft are there; nothing where a line has its number
abbrev pub LeftSaid : Trees → DeferralRow → Option Defect → Type 0
LeftSaid trees row said = DefectIfOpen row trees (option_map Some said)

-- the open defects of all aircraft: what each deferral says
abbrev pub AllOpenDefects : Trees → List Defect → Type 0
AllOpenDefects = GivesEach kept_defect is_any LeftSaid

-- the registrations of all aircraft
abbrev pub Tails : Trees → List (List ℕ) → Type 0
Tails = Gives kept_aircraft is_any (map (λ row. row.tail))

-- the serial numbers of all components
abbrev pub Serials : Trees → List (List ℕ) → Type 0
Serials = Gives kept_component is_any (map (λ row. row.serial))

-- the row has this number and this name of a task
abbrev pub is_of : ℕ → List ℕ → Row → Bool
is_of n id cells = has_value 0 (Int (pos n)) cells && has_value 1 (Text id) cells

-- whether there is a last base of the task with the number of the item
abbrev pub IsAccomplished : Item → List ℕ → Trees → Bool → Type 0
IsAccomplished item id = GivesBy (ItemNumber item) false (λ n. Gives kept_base2 (is_of n id) (λ rows. is_some (base_found rows)))

-- that last base
abbrev pub BaseOf : Item → List ℕ → Trees → Option Base → Type 0
BaseOf item id = GivesBy (ItemNumber item) None (λ n. Gives kept_base2 (is_of n id) base_found)

-- whether the table has fewer rows than this
abbrev pub HasRoom : TableName → ℕ → Trees → Bool → Type 0
HasRoom name most trees room = room ≡ nat_lt (length (rows_in (table_named name) trees)) most
