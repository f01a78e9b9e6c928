-- What is looked up for the rows of a command, over any rows, and the rows that are made of it.
use Rattle.std.specs.Prelude.{⊤, ◌≡◌, ◌+◌, ◌-◌, ◌^◌, ℕ, pos, min, List, [], ◌∷◌, ◌++◌, map, filter, All, Contains, Option, Some, None, IfSome, MatchOption}
use Rattle.std.specs.List.{cons_option}
use Rattle.std.specs.Option.{option_and_then}
use Rattle.sqlite.specs.declared.types.Value.TheVariants.{Int, Text}
use Rattle.sqlite.specs.Tree.{Trees}
use Rattle.mx_base.specs.declared.amounts.Base.{Base}
use Rattle.mx_base.specs.declared.amounts.Limit.{Limit}
use Rattle.mx_base.specs.declared.amounts.Use.{Use}
use Rattle.mx_book.specs.commands.Act.{Act, Entry, Opened, Flown, Fitted, Removed, Released, Deferred, Extended}
use Rattle.mx_book.specs.declared.commands.item.Item.{Item}
use Rattle.mx_book.specs.declared.commands.item.Item.TheVariants.{Airframe, Component}
use Rattle.mx_book.specs.declared.commands.programme.Task.{Task}
use Rattle.mx_book.specs.declared.commands.release.Line.{Line}
use Rattle.mx_book.specs.declared.commands.release.Line.TheVariants as lines
use Rattle.mx_book.specs.declared.commands.release.Place.{Place}
use Rattle.mx_book.specs.declared.commands.sector.Sector.{Sector}
use Rattle.mx_book.specs.due.Due.{due_after}
use Rattle.mx_book.specs.Judge.{item_at}
use Rattle.mx_book.specs.Life.{use_or_none}
use Rattle.mx_book.specs.Programme.{kind_at}
use Rattle.mx_book.specs.Register.{birth_in, found_of}
use Rattle.mx_book.specs.declared.found.Found.{Found}
use Rattle.mx_book.specs.declared.found.Found.TheVariants as founds
use Rattle.mx_base.specs.declared.rows.rows.EntryRow.{EntryRow}
use Rattle.mx_base.specs.declared.rows.rows.SpanRow.{SpanRow}
use Rattle.mx_base.specs.declared.rows.rows.TotalRow.{TotalRow}
use Rattle.mx_registers.specs.Names.{or_zero}
use Rattle.mx_registers.specs.Registers.{entry_row}
use Rattle.mx_base.specs.rows.Spans.{has_between}
use Rattle.mx_layout.specs.kept.Cells.{kept_aircraft, kept_component, kept_entry, kept_span2}
use Rattle.mx_table_rows.specs.chosen.Choices.{backward, has_value, is_any, is_open}
use Rattle.mx_row_rules.specs.found.Names.{last_number}
use Rattle.mx_row_rules.specs.found.Said.{aircraft_in, component_in}
use Rattle.mx_lookups.specs.numbers.AnyRows.{AreChosen, Gives, GivesFirst}
use Rattle.mx_lookups.specs.numbers.Given.{AircraftNumber, BaseOf, ComponentNumber, DefectNumber, ItemNumber, LifeOf, TaskOf}
use Rattle.mx_row_rules.specs.changes.Made.{AreMadeOf, Findings}
use Rattle.mx_row_rules.specs.declared.changes.releases.Certified.{Certified}
use Rattle.mx_row_rules.specs.declared.changes.releases.Certified.TheVariants.{Done, Rectified}
use Rattle.mx_row_rules.specs.declared.changes.rows.CommandRows.{CommandRows}
use Rattle.mx_apply.specs.made.Totals.{TotalOf}

-- ── numbers ──

-- the number is the one that was looked up, or 0 where there was none
abbrev pub NumberBy : (Trees → Option ℕ → Type 0) → Trees → ℕ → Type 0
NumberBy First trees number = (found : Option ℕ) × First trees found × (number ≡ or_zero found)

-- the row is that of the command, with the number behind that of the last entry, up to the last of 32 bits
abbrev pub IsEntryBehind : Entry → Trees → EntryRow → Type 0
IsEntryBehind command trees row = (last : ℕ) × GivesFirst kept_entry (Some 1) (backward kept_entry.order) is_any last_number trees last × (row ≡ entry_row (min (last + 1) (2 ^ 32 - 1)) command)

-- the numbers of an aircraft and of the components that were fitted throughout the flight of a sector, by its spans
abbrev pub numbers_flown : ℕ → Sector → List SpanRow → List ℕ
numbers_flown aircraft sector spans = aircraft ∷ map (λ row. row.component) (filter (λ row. has_between sector.off sector.on row.from row.to) spans)

-- the numbers of a component and of the aircraft of its spans
abbrev pub numbers_removed : ℕ → List SpanRow → List ℕ
numbers_removed component spans = component ∷ map (λ row. row.aircraft) spans

-- ── totals ──

-- the totals are those with these numbers, as they were: each has one of the numbers and is what is looked up by that, and what is looked up by any of them is among these
pub record AreTotalsOf (numbers : List ℕ) (trees : Trees) (totals : List TotalRow) : Type 0 where
  pub each : All (λ row. Contains numbers row.item × TotalOf row.item trees (Some row)) totals
  pub all : (n : ℕ) → Contains numbers n → (found : Option TotalRow) × TotalOf n trees found × IfSome found (Contains totals)

-- the total that is looked up by the number was appended, where there is one
abbrev pub AppendsTotal : ℕ → List TotalRow → List TotalRow → Trees → Type 0
AppendsTotal n old new trees = (found : Option TotalRow) × TotalOf n trees found × (new ≡ old ++ cons_option found [])

-- ── lines of a release ──

-- what the row of the item says, where there is one
abbrev pub ItemFound : Item → Trees → Found → Type 0
ItemFound (Airframe tail) = Gives kept_aircraft (has_value 1 (Text tail)) (λ rows. founds.Airframe (aircraft_in rows))
ItemFound (Component serial) = Gives kept_component (has_value 1 (Text serial)) (λ rows. founds.Component (component_in rows))

-- the kind whose programme work is done by at the place, as in each book that says of the place's item what its row says
abbrev pub KindAt : Place → Trees → Option (List ℕ) → Type 0
KindAt place trees kind = (found : Found) × ItemFound (item_at place) trees found × ((book : List Entry) → found ≡ found_of book (item_at place) → kind ≡ kind_at book place)

-- the life in the total of the item, none where the item is not there
abbrev pub LifeBy : Item → Trees → Use → Type 0
LifeBy item trees reached = (found : Option Use) × LifeOf item trees found × (reached ≡ use_or_none found)

-- when the task of the item is due, by its last base, the day on which the item was built and the task in force with its name; never without a kind
pub record DueBy (kind : Option (List ℕ)) (item : Item) (id : List ℕ) (trees : Trees) (due : Option Limit) : Type 0 where
  pub found : Found
  pub built : ItemFound item trees found
  pub last : Option Base
  pub done : BaseOf item id trees last
  pub falls : MatchOption kind (due ≡ None) (λ k. (known : Option (Option Task)) × TaskOf k id trees known × (due ≡ option_and_then (due_after last (birth_in found)) (option_and_then (λ task. task) known)))

-- this was looked up for the line: the number of its item, the life of that, and when the task is due; or the number of its defect
abbrev pub IsLineFound : Option (List ℕ) → Trees → Line → Certified → Type 0
IsLineFound kind trees (lines.Done item id) (Done number task reached due) = NumberBy (ItemNumber item) trees number × (task ≡ id) × LifeBy item trees reached × DueBy kind item id trees due
IsLineFound kind trees (lines.Rectified doc) (Rectified number) = NumberBy (DefectNumber doc) trees number
IsLineFound kind trees _ _ = ⊥

-- these were looked up for the lines, one after another
abbrev pub AreLinesFound : Option (List ℕ) → Trees → List Line → List Certified → Type 0
AreLinesFound kind trees [] [] = ⊤
AreLinesFound kind trees (line ∷ later) (known ∷ more) = IsLineFound kind trees line known × AreLinesFound kind trees later more
AreLinesFound kind trees _ _ = ⊥

-- so by the kind at the place of the release
abbrev pub AreLinesAt : Place → List Line → Trees → List Certified → Type 0
AreLinesAt place lines trees known = (kind : Option (List ℕ)) × KindAt place trees kind × AreLinesFound kind trees lines known

-- ── commands ──

-- the numbers of what a command names were looked up by its names
abbrev pub HasNumbers : Act → Trees → Findings → Type 0
HasNumbers (Opened opening) trees found = NumberBy (ItemNumber opening.item) trees found.number
HasNumbers (Flown sector) trees found = NumberBy (AircraftNumber sector.tail) trees found.number
HasNumbers (Fitted fitting) trees found = NumberBy (ComponentNumber fitting.serial) trees found.component × NumberBy (AircraftNumber fitting.tail) trees found.number
HasNumbers (Removed removal) trees found = NumberBy (ComponentNumber removal.serial) trees found.component
HasNumbers (Released release lines) trees found = NumberBy (ItemNumber (item_at release.place)) trees found.number
HasNumbers (Deferred deferral) trees found = NumberBy (AircraftNumber deferral.tail) trees found.number
HasNumbers (Extended extension) trees found = NumberBy (DefectNumber extension.defect) trees found.number
HasNumbers _ trees found = ⊤

-- the spans are all of the aircraft that flew, or the open ones of the component that is removed
abbrev pub HasSpans : Act → Trees → Findings → Type 0
HasSpans (Flown sector) trees found = AreChosen kept_span2 None kept_span2.order (has_value 2 (Int (pos found.number))) trees found.spans
HasSpans (Removed removal) trees found = AreChosen kept_span2 None kept_span2.order (is_open 1 (Int (pos found.component))) trees found.spans
HasSpans _ trees found = ⊤

-- what is known of the lines of a release was looked up for them, by the kind at its place
abbrev pub HasLines : Act → Trees → Findings → Type 0
HasLines (Released release lines) trees found = AreLinesAt release.place lines trees found.lines
HasLines _ trees found = ⊤

-- the numbers of the items to which a command gives a sector or a moment
abbrev pub numbers_given : Act → Findings → List ℕ
numbers_given (Flown sector) found = numbers_flown found.number sector found.spans
numbers_given (Fitted fitting) found = found.number ∷ found.component ∷ []
numbers_given (Removed removal) found = numbers_removed found.component found.spans
numbers_given (Released release lines) found = found.number ∷ []
numbers_given (Deferred deferral) found = found.number ∷ []
numbers_given _ found = []

-- this was looked up for a command that says this
pub record AreFindingsFor (act : Act) (trees : Trees) (found : Findings) : Type 0 where
  pub numbers : HasNumbers act trees found
  pub spans : HasSpans act trees found
  pub totals : AreTotalsOf (numbers_given act found) trees found.totals
  pub lines : HasLines act trees found

-- the rows are made of what a command says, behind the row of its entry, and of what was looked up for it
pub record AreRowsBy (act : Act) (entry : EntryRow) (trees : Trees) (rows : CommandRows) : Type 0 where
  pub found : Findings
  pub looked_up : AreFindingsFor act trees found
  pub made : AreMadeOf act entry found rows

-- the rows are this command's: its entry behind the last, and what is made of what it says and of what was looked up for it
pub record AreRowsFor (command : Entry) (trees : Trees) (rows : CommandRows) : Type 0 where
  pub behind : IsEntryBehind command trees rows.entry
  pub rows_by : AreRowsBy command.act rows.entry trees rows
