-- Worked rows: which table is told damaged for which rows, of items, what is fitted, totals, last bases and programmes.
-- The rows that are none of their type lack a value in a column that may not be NULL.
use Rattle.std.proofs.Common.{◌≡◌, ◌∙◌, ℕ, zero, suc, pos, Bool, true, false, List, [], ◌∷◌, filter, Some, None, inl, inr, refl, sym, ap, subst, arith}
use Rattle.std.specs.Prelude.{codes, IsPermutation, IsSorted}
use Rattle.std.specs.Ordering.{is_lt}
use Rattle.std.specs.declared.cmp.Ordering.{Ordering}
use Rattle.sqlite.specs.declared.types.Value.{Value}
use Rattle.sqlite.specs.declared.types.Value.TheVariants.{Int, Text, Null}
use Rattle.sqlite.specs.Order.{Row}
use Rattle.sqlite.specs.Tree.{Trees}
use Rattle.sqlite_sql.specs.Ops.{binary}
use Rattle.sqlite_value.specs.Order.{value_cmp}
use lib.Ieee.{is_nan, lt}
use Rattle.mx_base.specs.declared.rows.rows.SpanRow.{SpanRow}
use Rattle.mx_book.specs.declared.commands.item.Item.TheVariants.{Airframe, Component}
use Rattle.mx_book.proofs.Worked.{abcd}
use Rattle.mx_book.proofs.WorkedFittings.{e1, efgh}
use Rattle.mx_book.proofs.WorkedProgrammes.{c172}
use Rattle.mx_layout.specs.TableName.{TableName}
use Rattle.mx_layout.specs.declared.fault.Table.TheVariants as table
use Rattle.mx_layout.specs.Contents.{rows_in}
use Rattle.mx_layout.specs.Names.{table_named}
use Rattle.mx_layout.specs.Tables as tables
use Rattle.mx_layout.specs.kept.Cells.{kept_aircraft, kept_base2, kept_component, kept_entry, kept_place, kept_programme, kept_span2, kept_task, kept_total2}
use Rattle.mx_layout.specs.kept.Family.{IsReadableAs}
use Rattle.mx_layout.specs.kept.Kept.{Kept}
use Rattle.mx_table_rows.specs.chosen.Choices.{backward, has_value, is_any, is_missing, is_open}
use Rattle.mx_lookups.specs.numbers.Given.{AircraftNumber, BornOf, ComponentNumber, ItemNumber, LifeOf, NextRevision, NumberFitted, ProgrammeNumber, is_of}
use Rattle.mx_lookups.specs.numbers.Told.{AircraftDamage, BaseDamage, ComponentDamage, CountDamage, DocDamage, DoneDamage, EntryDamage, FittedDamage, HasPastBase, HasUnshaped, InForceDamage, IsChosen, ItemDamage, LastDamage, NumberFittedDamage, PartDamage, PlaceDamage, PlaceFittedDamage, PlacesDamage, ProgrammeDamage, RetiredDamage, RevisionDamage, SerialDamage, SerialsDamage, TailDamage, TailFittedDamage, TailNamedDamage, TailsDamage, TakenDamage, TotalDamage, Unread}
use Rattle.mx_lookups.specs.numbers.Damage.{IsUncounted}

-- ── a row that is none of its type ──

-- nothing stands in a column in which each row of the type has something
lacks : {X : Type 0} (k : Kept X) (at : ℕ) (row : Row) → is_missing at row ≡ true → ((x : X) → is_missing at (k.as_cells x) ≡ false) → ¬ IsReadableAs k row
lacks k at row missing stands it =
    let told : is_missing at row ≡ is_missing at (k.as_cells it.0) = ap (is_missing at) it.2 in
    let never : is_missing at (k.as_cells it.0) ≡ false = stands it.0 in
    absurd cc

one_sorted : (order : Row → Row → Ordering) (row : Row) → IsSorted order (row ∷ [])
one_sorted order row k d low high = absurd (omega (arith, high))

same_rows : (before after : List Row) → before ≡ after → IsPermutation before after
same_rows before after is = record { moves = []; below = tt; is = sym is }

-- such a row is chosen of those of its table
pub unread : {X : Type 0} (k : Kept X) (chosen : Row → Bool) (at : ℕ) (trees : Trees) (rows : List Row) (row : Row) → rows_in (table_named k.name) trees ≡ rows → filter chosen rows ≡ row ∷ [] → is_missing at row ≡ true → ((x : X) → is_missing at (k.as_cells x) ≡ false)
    → Unread k chosen k.name trees
unread k chosen at trees rows row there chose missing stands =
    (refl, (row ∷ [], record { those = row ∷ []; are = record { all = same_rows _ _ (ap (filter chosen) there ∙ chose); sorted = one_sorted k.order row }; first = refl }, (row, (0, omega arith, refl), lacks k at row missing stands)))

-- ── the rows ──

-- an aircraft without its kind, and a component without its part
abbrev pub aircraft_row : ℕ → List ℕ → Row
aircraft_row n tail = Int (pos n) ∷ Text tail ∷ Null ∷ Int (pos 10957) ∷ Int (pos 60000) ∷ Int (pos 800) ∷ Int (pos 28401120) ∷ []

abbrev component_row : ℕ → List ℕ → Row
component_row n serial = Int (pos n) ∷ Text serial ∷ Null ∷ Int (pos 14610) ∷ Int (pos 1000) ∷ Int (pos 100) ∷ Int (pos 28401120) ∷ []

-- D-EFGH is entry 7, and D-ABCD entry 1; E2 is entry 3, and E1 entry 2
abbrev pub two_aircraft : List Row
two_aircraft = aircraft_row 7 efgh ∷ aircraft_row 1 abcd ∷ []

abbrev two_components : List Row
two_components = component_row 3 (codes "E2") ∷ component_row 2 e1 ∷ []

-- an entry without its kind
abbrev pub entry_row : ℕ → List ℕ → Row
entry_row n doc = Int (pos n) ∷ Text doc ∷ Null ∷ []

-- a span without its position: its entry, its component, its aircraft, and the entry and the moment that ended it
abbrev pub span : ℕ → ℕ → ℕ → Value → Value → Row
span n component aircraft ended to = Int (pos n) ∷ Int (pos component) ∷ Int (pos aircraft) ∷ Null ∷ Int (pos 28445760) ∷ ended ∷ to ∷ []

-- E1 was fitted to D-ABCD and removed, E2 is fitted to D-EFGH, and E1 to D-ABCD again
abbrev three_spans : List Row
three_spans = span 4 2 1 (Int (pos 5)) (Int (pos 28488090)) ∷ span 8 3 7 Null Null ∷ span 9 2 1 Null Null ∷ []

-- a position without its part, a total without its clock, a last base without its day
abbrev place_row : ℕ → Row
place_row n = Int (pos n) ∷ Int (pos 1) ∷ Text (codes "ENG") ∷ Null ∷ []

abbrev total_row : ℕ → Row
total_row item = Int (pos item) ∷ Int (pos 60000) ∷ Int (pos 800) ∷ Null ∷ []

abbrev base_row : ℕ → List ℕ → Row
base_row item task = Int (pos item) ∷ Text task ∷ Int (pos 60000) ∷ Int (pos 800) ∷ Null ∷ []

-- a programme without its revision, a task without its tolerance
abbrev programme_row : ℕ → List ℕ → Row
programme_row n kind = Int (pos n) ∷ Text kind ∷ Null ∷ []

abbrev task_row : ℕ → Row
task_row n = Int (pos n) ∷ Int (pos 1) ∷ Text (codes "100H") ∷ Null ∷ Int (pos 0) ∷ Int (pos 63000) ∷ Null ∷ Null ∷ Int (pos 6000) ∷ Null ∷ Null ∷ Int (pos 600) ∷ Int (pos 0) ∷ Null ∷ []

-- ── by a name or a number ──

aircraft_told : (trees : Trees) → rows_in tables.aircraft trees ≡ two_aircraft → AircraftDamage abcd table.Aircraft trees × TailDamage 1 table.Aircraft trees
unfolding binary value_cmp is_nan lt
aircraft_told trees there = (unread kept_aircraft _ 2 trees _ (aircraft_row 1 abcd) there refl refl (λ x. refl), unread kept_aircraft _ 2 trees _ (aircraft_row 1 abcd) there refl refl (λ x. refl))

components_told : (trees : Trees) → rows_in tables.component trees ≡ two_components → ComponentDamage e1 table.Component trees × SerialDamage 2 table.Component trees
unfolding binary value_cmp is_nan lt
components_told trees there = (unread kept_component _ 2 trees _ (component_row 2 e1) there refl refl (λ x. refl), unread kept_component _ 2 trees _ (component_row 2 e1) there refl refl (λ x. refl))

items_told : (trees : Trees) → rows_in tables.aircraft trees ≡ two_aircraft → rows_in tables.component trees ≡ two_components → ItemDamage (Airframe abcd) table.Aircraft trees × ItemDamage (Component e1) table.Component trees
items_told trees aircraft components = ((aircraft_told trees aircraft).0, (components_told trees components).0)

-- A1 is entry 1, and X1 entry 2
entries_told : (trees : Trees) → rows_in tables.entry trees ≡ entry_row 1 (codes "A1") ∷ entry_row 2 (codes "X1") ∷ [] → EntryDamage (codes "X1") table.Entry trees × DocDamage 2 table.Entry trees
unfolding binary value_cmp is_nan lt
entries_told trees there = (unread kept_entry _ 2 trees _ (entry_row 2 (codes "X1")) there refl refl (λ x. refl), unread kept_entry _ 2 trees _ (entry_row 2 (codes "X1")) there refl refl (λ x. refl))

-- the last entry is read alone: the first may be whole
abbrev whole_entry : Row
whole_entry = Int (pos 1) ∷ Text (codes "A1") ∷ Int (pos 1) ∷ []

two_sorted : (order : Row → Row → Ordering) (a b : Row) → is_lt (order b a) ≡ false → IsSorted order (a ∷ b ∷ [])
two_sorted order a b is zero d low high = is
two_sorted order a b is (suc k) d low high = absurd (omega (arith, high))

exchanged : (before : List Row) (a b : Row) → before ≡ a ∷ b ∷ [] → IsPermutation before (b ∷ a ∷ [])
exchanged before a b is = subst (λ rows. IsPermutation rows (b ∷ a ∷ [])) (sym is) (record { moves = (0, 1) ∷ []; below = (omega arith, omega arith, tt); is = refl })

last_told : (trees : Trees) → rows_in tables.entry trees ≡ whole_entry ∷ entry_row 2 (codes "X1") ∷ [] → LastDamage table.Entry trees
unfolding binary value_cmp is_nan lt
last_told trees there =
    let last : Row = entry_row 2 (codes "X1") in
    let sorted : IsSorted (backward kept_entry.order) (last ∷ whole_entry ∷ []) = two_sorted (backward kept_entry.order) last whole_entry refl in
    (refl, (last ∷ [], record { those = last ∷ whole_entry ∷ []; are = record { all = exchanged _ whole_entry last (ap (filter is_any) there); sorted = sorted }; first = refl }, (last, (0, omega arith, refl), lacks kept_entry 2 last refl (λ x. refl))))

-- a span names the aircraft of entry 3, which is a component: the span is to blame
named_told : (trees : Trees) → rows_in tables.aircraft trees ≡ two_aircraft → TailNamedDamage table.Span2 1 table.Aircraft trees × TailNamedDamage table.Span2 3 table.Span2 trees
unfolding binary value_cmp is_nan lt
named_told trees there = (inl (aircraft_told trees there).1, inr (refl, ap (filter (has_value 0 (Int (pos 3)))) there))

-- ── what is fitted where ──

-- what is damaged as a name is looked up is told by what is looked up behind it
by_aircraft : (name : TableName) (trees : Trees) → AircraftDamage abcd name trees → PartDamage abcd name trees × TakenDamage abcd name trees × FittedDamage abcd name trees
by_aircraft name trees is = (inl is, inl is, inl is)

by_component : (name : TableName) (trees : Trees) → ComponentDamage e1 name trees → NumberFittedDamage e1 name trees × TailFittedDamage e1 name trees × PlaceFittedDamage e1 name trees
by_component name trees is = (inl is, inl (inl is), inl (inl is))

position_told : (trees : Trees) → AircraftNumber abcd trees (Some 1) → rows_in tables.place trees ≡ place_row 7 ∷ place_row 1 ∷ [] → PartDamage abcd table.Place trees
unfolding binary value_cmp is_nan lt
position_told trees number there = inr (1, number, unread kept_place _ 3 trees _ (place_row 1) there refl refl (λ x. refl))

-- of what is fitted to D-ABCD, and of where E1 is fitted
spans_told : (trees : Trees) → rows_in tables.span2 trees ≡ three_spans → AircraftNumber abcd trees (Some 1) → ComponentNumber e1 trees (Some 2)
    → TakenDamage abcd table.Span2 trees × FittedDamage abcd table.Span2 trees × NumberFittedDamage e1 table.Span2 trees
unfolding binary value_cmp is_nan lt
spans_told trees there aircraft component =
    let of_aircraft : Unread kept_span2 (is_open 2 (Int (pos 1))) table.Span2 trees = unread kept_span2 _ 3 trees _ (span 9 2 1 Null Null) there refl refl (λ x. refl) in
    let of_component : Unread kept_span2 (is_open 1 (Int (pos 2))) table.Span2 trees = unread kept_span2 _ 3 trees _ (span 9 2 1 Null Null) there refl refl (λ x. refl) in
    (inr (1, aircraft, of_aircraft), inr (1, aircraft, inl of_aircraft), inr (2, component, of_component))

-- the span of E1 names the aircraft of entry 3, which is not there, or the one of entry 1, whose row is none
aircraft_of_span_told : (trees : Trees) → rows_in tables.aircraft trees ≡ two_aircraft → NumberFitted e1 trees (Some 3) → TailFittedDamage e1 table.Span2 trees × PlaceFittedDamage e1 table.Span2 trees
aircraft_of_span_told trees there number = (inr (3, number, (named_told trees there).1), inr (3, number, (named_told trees there).1))

aircraft_fitted_told : (trees : Trees) → rows_in tables.aircraft trees ≡ two_aircraft → NumberFitted e1 trees (Some 1) → TailFittedDamage e1 table.Aircraft trees × PlaceFittedDamage e1 table.Aircraft trees
aircraft_fitted_told trees there number = (inr (1, number, (named_told trees there).0), inr (1, number, (named_told trees there).0))

component_of_span_told : (trees : Trees) → rows_in tables.component trees ≡ two_components → PlaceDamage 2 table.Component trees × PlaceDamage 1 table.Span2 trees
unfolding binary value_cmp is_nan lt
component_of_span_told trees there = (inl (components_told trees there).1, inr (refl, ap (filter (has_value 0 (Int (pos 1)))) there))

-- an open span with the number of D-ABCD whose component is not there
places_told : (trees : Trees) (row : SpanRow) → IsChosen kept_span2 (is_open 2 (Int (pos 1))) trees row → row.component ≡ 1 → rows_in tables.component trees ≡ two_components → PlacesDamage 1 table.Span2 trees
places_told trees row chosen is there = inr (row, chosen, subst (λ n. PlaceDamage n table.Span2 trees) (sym is) (component_of_span_told trees there).1)

-- ── totals and last bases ──

by_item : (name : TableName) (trees : Trees) → ItemDamage (Airframe abcd) name trees → TotalDamage (Airframe abcd) name trees × DoneDamage (Airframe abcd) (codes "100H") name trees × BaseDamage (Airframe abcd) (codes "100H") name trees × RetiredDamage c172 (Airframe abcd) name trees
by_item name trees is = (inl is, inl is, inl is, inl is)

-- D-ABCD has a total that is none, and E1 has none
totals_told : (trees : Trees) → rows_in tables.total2 trees ≡ total_row 7 ∷ total_row 1 ∷ [] → ItemNumber (Airframe abcd) trees (Some 1) → ItemNumber (Component e1) trees (Some 2) → TotalDamage (Airframe abcd) table.Total2 trees × TotalDamage (Component e1) table.Total2 trees
unfolding binary value_cmp is_nan lt
totals_told trees there aircraft component = (inr (1, aircraft, inl (unread kept_total2 _ 3 trees _ (total_row 1) there refl refl (λ x. refl))), inr (2, component, inr (refl, ap (filter (has_value 0 (Int (pos 2)))) there)))

abbrev three_bases : List Row
three_bases = base_row 1 (codes "ANNUAL") ∷ base_row 1 (codes "100H") ∷ base_row 7 (codes "100H") ∷ []

bases_told : (trees : Trees) → rows_in tables.base2 trees ≡ three_bases → ItemNumber (Airframe abcd) trees (Some 1) → DoneDamage (Airframe abcd) (codes "100H") table.Base2 trees × BaseDamage (Airframe abcd) (codes "100H") table.Base2 trees
unfolding binary value_cmp is_nan lt
bases_told trees there number =
    let told : Unread kept_base2 (is_of 1 (codes "100H")) table.Base2 trees = unread kept_base2 _ 4 trees _ (base_row 1 (codes "100H")) there refl refl (λ x. refl) in
    (inr (1, number, told), inr (1, number, inl told))

past_base_told : (trees : Trees) → ItemNumber (Airframe abcd) trees (Some 1) → HasPastBase 1 (codes "100H") trees → BaseDamage (Airframe abcd) (codes "100H") table.Base2 trees
past_base_told trees number past = inr (1, number, inr (refl, past))

-- ── programmes ──

programmes_told : (trees : Trees) → rows_in tables.programme trees ≡ programme_row 2 (codes "PA28") ∷ programme_row 3 c172 ∷ [] → ProgrammeDamage c172 table.Programme trees
unfolding binary value_cmp is_nan lt
programmes_told trees there = unread kept_programme _ 2 trees _ (programme_row 3 c172) there refl refl (λ x. refl)

by_programme : (name : TableName) (trees : Trees) → ProgrammeDamage c172 name trees → RevisionDamage c172 name trees × InForceDamage c172 name trees
by_programme name trees is = (inl is, inl is)

-- behind revision 4,294,967,295 there is none
revision_told : (trees : Trees) → NextRevision c172 trees 4294967296 → RevisionDamage c172 table.Programme trees
revision_told trees next = inr (refl, (4294967296, next, omega arith))

tasks_told : (trees : Trees) → ProgrammeNumber c172 trees (Some 3) → rows_in tables.task trees ≡ task_row 2 ∷ task_row 3 ∷ [] → InForceDamage c172 table.Task trees
unfolding binary value_cmp is_nan lt
tasks_told trees number there = inr (3, number, inl (unread kept_task _ 13 trees _ (task_row 3) there refl refl (λ x. refl)))

unshaped_told : (trees : Trees) → ProgrammeNumber c172 trees (Some 3) → HasUnshaped 3 trees → InForceDamage c172 table.Task trees
unshaped_told trees number lacks_shape = inr (3, number, inr (refl, lacks_shape))

-- D-ABCD was built on 2000-01-01, and has 60,000 minutes and 800 cycles
retired_told : (name : TableName) (trees : Trees) → BornOf (Airframe abcd) trees (Some (None, 10957)) → TotalDamage (Airframe abcd) name trees → RetiredDamage c172 (Airframe abcd) name trees
retired_told name trees born total = inr ((None, 10957), born, inl total)

tasks_of_retired_told : (trees : Trees) → BornOf (Airframe abcd) trees (Some (None, 10957)) → LifeOf (Airframe abcd) trees (Some (record { minutes = 60000; cycles = 800 })) → InForceDamage c172 table.Task trees → RetiredDamage c172 (Airframe abcd) table.Task trees
tasks_of_retired_told trees born life tasks = inr ((None, 10957), born, inr (record { minutes = 60000; cycles = 800 }, life, tasks))

-- ── all of them, and how many there are ──

all_told : (trees : Trees) → rows_in tables.aircraft trees ≡ aircraft_row 7 efgh ∷ [] → rows_in tables.component trees ≡ component_row 3 (codes "E2") ∷ [] → TailsDamage table.Aircraft trees × SerialsDamage table.Component trees
all_told trees aircraft components = (unread kept_aircraft _ 2 trees _ (aircraft_row 7 efgh) aircraft refl refl (λ x. refl), unread kept_component _ 2 trees _ (component_row 3 (codes "E2")) components refl refl (λ x. refl))

uncounted_told : (trees : Trees) → IsUncounted table.Component trees → CountDamage table.Component table.Component trees
uncounted_told trees many = (refl, many)
