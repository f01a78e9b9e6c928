-- Worked rows: which table is told damaged as a command is looked for among those that are known, of each kind of command.
-- The rows that are none of their type lack a value in a column that may not be NULL.
use Rattle.std.proofs.Common.{◌≡◌, ℕ, pos, List, [], ◌∷◌, Some, inl, inr, refl, arith}
use Rattle.std.specs.Prelude.{codes}
use Rattle.sqlite.specs.declared.types.Value.{Value}
use Rattle.sqlite.specs.declared.types.Value.TheVariants.{Int, Text, Null}
use Rattle.sqlite.specs.Order.{Row, value_cmp}
use Rattle.sqlite.specs.Tree.{Trees}
use Rattle.sqlite.specs.Ops.{binary}
use lib.Ieee.{is_nan, lt}
use Rattle.mx_base.specs.declared.category.Category.TheVariants.{C}
use Rattle.mx_book.specs.commands.Act.{Act, Entry, Released}
use Rattle.mx_book.specs.declared.commands.item.Item.TheVariants.{Airframe, Component}
use Rattle.mx_book.specs.declared.commands.release.Line.{Line}
use Rattle.mx_book.specs.declared.commands.release.Line.TheVariants.{Done, Rectified}
use Rattle.mx_book.specs.declared.commands.release.Place.TheVariants.{Aircraft}
use Rattle.mx_book.proofs.Worked.{abcd, aircraft_with, at, logged, sector}
use Rattle.mx_book.proofs.WorkedDefects.{defer, extend, x1, x2}
use Rattle.mx_book.proofs.WorkedFittings.{e1, engine, engine_with, fit, remove}
use Rattle.mx_book.proofs.WorkedProgrammes.{c172, hundred_hours, load, open_task}
use Rattle.mx_layout.specs.TableName.{TableName}
use Rattle.mx_layout.specs.declared.fault.Table.TheVariants as table
use Rattle.mx_layout.specs.Contents.{rows_in}
use Rattle.mx_layout.specs.Tables as tables
use Rattle.mx_layout.specs.kept.Cells.{kept_aircraft, kept_component, kept_crs, kept_crs_line, kept_defect, kept_entry, kept_extension, kept_opening, kept_place, kept_programme, kept_sector2, kept_span2, kept_task}
use Rattle.mx_table_rows.specs.chosen.Choices.{has_value}
use Rattle.mx_row_rules.specs.found.Names.{entry_number}
use Rattle.mx_lookups.specs.numbers.AnyRows.{Gives}
use Rattle.mx_lookups.specs.numbers.Told.{AircraftDamage, ComponentDamage, EntryDamage, ItemDamage}
use Rattle.mx_lookups.proofs.NumbersProofs.WorkedTold.{unread}
use Rattle.mx_row_judge.specs.known.Known.{KnownDamage, LineDamage, LinesDamage, RowsDamage, SaysDamage}

-- ── rows with a number ──

-- a position without its part, of the aircraft with this entry
abbrev place_row : ℕ → Row
place_row n = Int (pos n) ∷ Int (pos 1) ∷ Text engine ∷ Null ∷ []

rows_told : (trees : Trees) → rows_in tables.place trees ≡ place_row 7 ∷ place_row 1 ∷ [] → RowsDamage kept_place 1 table.Place trees
unfolding binary value_cmp is_nan lt
rows_told trees there = unread kept_place _ 3 trees _ (place_row 1) there refl refl (λ x. refl)

-- ── what each kind of command says ──

-- an aircraft and its positions, a component, a programme and its tasks
added_told : (name : TableName) (trees : Trees) → RowsDamage kept_aircraft 1 name trees → SaysDamage 1 (aircraft_with abcd) name trees
added_told name trees is = inl is

positions_told : (name : TableName) (trees : Trees) → RowsDamage kept_place 1 name trees → SaysDamage 1 (aircraft_with abcd) name trees
positions_told name trees is = inr is

listed_told : (name : TableName) (trees : Trees) → RowsDamage kept_component 2 name trees → SaysDamage 2 (engine_with e1) name trees
listed_told name trees is = is

loaded_told : (name : TableName) (trees : Trees) → RowsDamage kept_programme 3 name trees → SaysDamage 3 (load c172 1 (hundred_hours ∷ [])) name trees
loaded_told name trees is = inl is

tasks_told : (name : TableName) (trees : Trees) → RowsDamage kept_task 3 name trees → SaysDamage 3 (load c172 1 (hundred_hours ∷ [])) name trees
tasks_told name trees is = inr is

-- an opening of the inspection of D-ABCD every 100 hours
abbrev opened : Act
opened = open_task (Airframe abcd) c172 (codes "100H") 59000 780 19509

item_opened_told : (name : TableName) (trees : Trees) → AircraftDamage abcd name trees → SaysDamage 4 opened name trees
item_opened_told name trees is = inl is

opened_told : (name : TableName) (trees : Trees) → RowsDamage kept_opening 4 name trees → SaysDamage 4 opened name trees
opened_told name trees is = inr is

abbrev flown : Act
flown = sector 1 (at 19783 8 0) (at 19783 9 30) 1

aircraft_flown_told : (name : TableName) (trees : Trees) → AircraftDamage abcd name trees → SaysDamage 5 flown name trees
aircraft_flown_told name trees is = inl is

flown_told : (name : TableName) (trees : Trees) → RowsDamage kept_sector2 5 name trees → SaysDamage 5 flown name trees
flown_told name trees is = inr is

abbrev fitted : Act
fitted = fit e1 abcd engine (at 19754 0 0)

named_by_fitting_told : (name : TableName) (trees : Trees) → ComponentDamage e1 name trees → SaysDamage 6 fitted name trees
named_by_fitting_told name trees is = inl is

aircraft_fitted_told : (name : TableName) (trees : Trees) → AircraftDamage abcd name trees → SaysDamage 6 fitted name trees
aircraft_fitted_told name trees is = inr (inl is)

fitted_told : (name : TableName) (trees : Trees) → RowsDamage kept_span2 6 name trees → SaysDamage 6 fitted name trees
fitted_told name trees is = inr (inr is)

-- the removal is entry 7: it ended the span that entry 6 began
abbrev removed : Act
removed = remove e1 (at 19783 9 30)

component_removed_told : (name : TableName) (trees : Trees) → ComponentDamage e1 name trees → SaysDamage 7 removed name trees
component_removed_told name trees is = inl is

-- a span without its position: its entry, and the one that ended it
abbrev span : ℕ → ℕ → Row
span n ended = Int (pos n) ∷ Int (pos 2) ∷ Int (pos 1) ∷ Null ∷ Int (pos 28445760) ∷ Int (pos ended) ∷ Int (pos 28488090) ∷ []

removed_told : (trees : Trees) → rows_in tables.span2 trees ≡ span 6 7 ∷ span 7 8 ∷ [] → SaysDamage 7 removed table.Span2 trees
unfolding binary value_cmp is_nan lt
removed_told trees there = inr (unread kept_span2 _ 3 trees _ (span 6 7) there refl refl (λ x. refl))

-- at D-ABCD, of the inspection every 100 hours and of X1
abbrev certified : List Line
certified = Done (Airframe abcd) (codes "100H") ∷ Rectified x1 ∷ []

abbrev released : Act
released = Released (record { place = Aircraft abcd; moment = at 19784 12 0 }) certified

item_released_told : (name : TableName) (trees : Trees) → AircraftDamage abcd name trees → SaysDamage 8 released name trees
item_released_told name trees is = inl (inl is)

released_told : (name : TableName) (trees : Trees) → RowsDamage kept_crs 8 name trees → SaysDamage 8 released name trees
released_told name trees is = inl (inr is)

lines_told : (name : TableName) (trees : Trees) → RowsDamage kept_crs_line 8 name trees → SaysDamage 8 released name trees
lines_told name trees is = inr (inl is)

-- what is named by a line: the item of a task that was done, and the entry of a defect
line_of_item_told : (name : TableName) (trees : Trees) → ComponentDamage e1 name trees → LineDamage (Done (Component e1) (codes "OVH")) name trees
line_of_item_told name trees is = is

line_of_defect_told : (name : TableName) (trees : Trees) → EntryDamage x1 name trees → LinesDamage certified name trees × SaysDamage 8 released name trees
line_of_defect_told name trees is = ((Rectified x1, (1, omega arith, refl), is), inr (inr (Rectified x1, (1, omega arith, refl), is)))

abbrev deferred : Act
deferred = defer abcd (at 19754 0 0) C

aircraft_deferred_told : (name : TableName) (trees : Trees) → AircraftDamage abcd name trees → SaysDamage 9 deferred name trees
aircraft_deferred_told name trees is = inl is

deferred_told : (name : TableName) (trees : Trees) → RowsDamage kept_defect 9 name trees → SaysDamage 9 deferred name trees
deferred_told name trees is = inr is

abbrev extended : Act
extended = extend x1 19750 3

defect_extended_told : (name : TableName) (trees : Trees) → EntryDamage x1 name trees → SaysDamage 10 extended name trees
defect_extended_told name trees is = inl is

extended_told : (name : TableName) (trees : Trees) → RowsDamage kept_extension 10 name trees → SaysDamage 10 extended name trees
extended_told name trees is = inr is

-- ── by the document ──

-- X2 extends the defect of X1
abbrev extending : Entry
extending = logged x2 extended

document_told : (name : TableName) (trees : Trees) → EntryDamage x2 name trees → KnownDamage extending name trees
document_told name trees is = inl is

-- it is known as entry 10, whose row is none, or the row of the entry that it names
known_told : (name : TableName) (trees : Trees) → Gives kept_entry (has_value 1 (Text x2)) entry_number trees (Some 10) → RowsDamage kept_extension 10 name trees → KnownDamage extending name trees
known_told name trees known is = inr (10, known, inr is)
