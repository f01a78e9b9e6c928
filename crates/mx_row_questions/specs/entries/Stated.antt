-- What the rows with a number state of each kind of entry but releases, over any rows.
use Rattle.std.specs.Prelude.{◌≡◌, ℕ, pos, List, map, Option, None, slice_get}
use Rattle.std.specs.List.{filter_map}
use Rattle.std.specs.Option.{option_and_then, option_map}
use Rattle.sqlite.specs.declared.types.Value.TheVariants.{Int}
use Rattle.sqlite.specs.Tree.{Trees}
use Rattle.mx_book.specs.commands.Act.{Act}
use Rattle.mx_registers.specs.Merge.{deferral_said, extension_said, fitting_said, opening_said, removal_said, sector_said}
use Rattle.mx_base.specs.declared.rows.rows.PlaceRow.{PlaceRow}
use Rattle.mx_base.specs.declared.rows.rows.Sector2Row.{Sector2Row}
use Rattle.mx_base.specs.declared.rows.rows.TaskRow.{TaskRow}
use Rattle.mx_registers.specs.kept.Spans.{fitting_in, removal_in}
use Rattle.mx_layout.specs.kept.Cells.{kept_aircraft, kept_component, kept_defect, kept_extension, kept_opening, kept_place, kept_programme, kept_sector2_rows, kept_span2, kept_task}
use Rattle.mx_layout.specs.kept.Kept.{Kept}
use Rattle.mx_table_rows.specs.chosen.Choices.{has_value}
use Rattle.mx_row_rules.specs.found.Stated.{aircraft_stated, component_stated, programme_stated}
use Rattle.mx_lookups.specs.numbers.AnyRows.{AreChosen, Gives}
use Rattle.mx_lookups.specs.numbers.Given.{SerialOfNumber, TailOfNumber}
use Rattle.mx_row_questions.specs.entries.Names.{ByRow, DocOfDefect, ItemOfNumber, WithName}

-- the first of the rows with this number
abbrev pub FirstOf : {X : Type 0} → Kept X → ℕ → Trees → Option X → Type 0
FirstOf k n = Gives k (has_value 0 (Int (pos n))) (λ rows. slice_get rows 0)

-- what is made of all rows with this number
abbrev pub AllOf : {X : Type 0} → Kept X → ℕ → Trees → List X → Type 0
AllOf k n = AreChosen k None k.order (has_value 0 (Int (pos n)))

-- an aircraft with its positions
abbrev pub AircraftStated : ℕ → Trees → Option Act → Type 0
AircraftStated n trees said = (positions : List PlaceRow) × AllOf kept_place n trees positions × Gives kept_aircraft (has_value 0 (Int (pos n))) (aircraft_stated positions) trees said

-- a component
abbrev pub ComponentStated : ℕ → Trees → Option Act → Type 0
ComponentStated n = Gives kept_component (has_value 0 (Int (pos n))) component_stated

-- a programme with its tasks
abbrev pub ProgrammeStated : ℕ → Trees → Option Act → Type 0
ProgrammeStated n trees said = (tasks : List TaskRow) × AllOf kept_task n trees tasks × Gives kept_programme (has_value 0 (Int (pos n))) (programme_stated tasks) trees said

-- an opening of the item whose number it has
abbrev pub OpeningStated : ℕ → Trees → Option Act → Type 0
OpeningStated n = ByRow (FirstOf kept_opening n) (λ row. WithName ItemOfNumber row.item (opening_said row))

-- a sector of the aircraft whose number it has
abbrev pub SectorStated : ℕ → Trees → Option Act → Type 0
SectorStated n = ByRow (Gives kept_sector2_rows (has_value 0 (Int (pos n))) (λ rows. slice_get (map (λ (row : Sector2Row). row.sector) rows) 0)) (λ row. WithName TailOfNumber row.aircraft (sector_said row))

-- a fitting: what begins the span, of the component and the aircraft whose numbers it has
abbrev pub FittingStated : ℕ → Trees → Option Act → Type 0
FittingStated n = ByRow (Gives kept_span2 (has_value 0 (Int (pos n))) (λ rows. slice_get (map fitting_in rows) 0)) (λ row trees said.
    (serial : Option (List ℕ)) × SerialOfNumber row.component trees serial × ((tail : Option (List ℕ)) × TailOfNumber row.aircraft trees tail × (said ≡ option_and_then (λ s. option_map (fitting_said row s) tail) serial)))

-- a removal: what ends the first of the spans with its number that has ended, of the component whose number that has
abbrev pub RemovalStated : ℕ → Trees → Option Act → Type 0
RemovalStated n = ByRow (Gives kept_span2 (has_value 5 (Int (pos n))) (λ rows. slice_get (filter_map removal_in rows) 0)) (λ row. WithName SerialOfNumber row.component (removal_said row))

-- a deferral of a defect of the aircraft whose number it has
abbrev pub DeferralStated : ℕ → Trees → Option Act → Type 0
DeferralStated n = ByRow (FirstOf kept_defect n) (λ row. WithName TailOfNumber row.aircraft (deferral_said row))

-- an extension of the limit of the defect whose number it has
abbrev pub ExtensionStated : ℕ → Trees → Option Act → Type 0
ExtensionStated n = ByRow (FirstOf kept_extension n) (λ row. WithName DocOfDefect row.defect (extension_said row))
