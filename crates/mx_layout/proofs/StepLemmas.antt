-- What each statement of the layouts makes of tables without a row, one after another.
use Rattle.std.proofs.Common.{◌≡◌, ◌⊎◌, inl, inr, ℕ, zero, suc, ◌+◌, List, [], ◌∷◌, slice_get, Some, Result, OnOk, refl, sym, subst, arith}
use Rattle.std.specs.Prelude.{⊤}
use Rattle.sqlite.specs.Table.{Table}
use Rattle.sqlite.specs.Schema.{Schema}
use Rattle.sqlite.specs.Change.{created, without_table, with_index}
use Rattle.sqlite.specs.State.{State, ExecutesInside}
use Rattle.sqlite.specs.declared.error.Error.{Error}
use Rattle.sqlite.specs.Listing.{understood}
use Rattle.sqlite_schema.specs.declared.schema.Index.{Index}
use Rattle.sqlite_tied.specs.Compute.{everything}
use Rattle.mx_layout.specs.Contents.{HasNoReferences}
use Rattle.mx_layout.specs.CreateTexts.{office_text, entry_text, aircraft_text, place_text, component_text, programme_text, task_text, opening_text, crs_text, crs_line_text, extension_text, defect_text, sector1_text, fit1_text, removal1_text, sector2_text, sector1_dropped, span2_text, fit1_dropped, removal1_dropped, total2_text, base2_text, defect3_text, defect_dropped, done3_text, base2_dropped, span2_by_component_text, span2_by_aircraft_text, span2_by_remove_seq_text, crs_line_by_defect_text, extension_by_defect_text, defect_by_aircraft_text, defect3_by_aircraft_text, sector2_by_aircraft_text, crs_by_item_text}
use Rattle.mx_layout.specs.Making.{IsBlank}
use Rattle.mx_layout.specs.Steps.{schema_after, steps_of, step_texts, schema_of, IsLayout, LayoutsMeet}
use Rattle.mx_layout.specs.Tables.{no_schema, layout_1, layout_2, layout_3, office, entry, aircraft, place, component, programme, task, opening, crs, crs_line, extension, defect, sector1, fit1, removal1, sector2, span2, total2, base2, defect3, done3, span2_by_component, span2_by_aircraft, span2_by_remove_seq, crs_line_by_defect, extension_by_defect, defect_by_aircraft, defect3_by_aircraft, sector2_by_aircraft, crs_by_item}
use Rattle.mx_layout.proofs.CreateLemmas.{Defines, creates_blank}
use Rattle.mx_layout.proofs.DropLemmas.{MeansRemoved, none_refer, removes_blank}
use Rattle.mx_layout.proofs.IndexLemmas.{MeansIndexed, indexes_blank}

-- the schema after so many of the statements
unfoldable pub schema_at : ℕ → Schema
schema_at n = schema_after n

pub first_schema : schema_at 0 ≡ no_schema
unfolding schema_at
first_schema = refl

layout_1_schema : schema_at 15 ≡ layout_1
unfolding schema_at everything
layout_1_schema = refl

layout_2_schema : schema_at 28 ≡ layout_2
unfolding schema_at everything
layout_2_schema = refl

layout_3_schema : schema_at 35 ≡ layout_3
unfolding schema_at everything
layout_3_schema = refl

-- the statements of a layout end with its schema
pub last_schema : (layout : ℕ) → IsLayout layout → schema_at (steps_of layout) ≡ schema_of layout
last_schema layout (inl one) = subst (λ n. schema_at (steps_of n) ≡ schema_of n) (sym one) layout_1_schema
last_schema layout (inr (inl two)) = subst (λ n. schema_at (steps_of n) ≡ schema_of n) (sym two) layout_2_schema
last_schema layout (inr (inr three)) = subst (λ n. schema_at (steps_of n) ≡ schema_of n) (sym three) layout_3_schema

pub meet : LayoutsMeet
unfolding everything
meet = record { first = refl; second = refl; third = refl }

-- ── each statement ──

-- the text at a place makes a table, and the schema of the next place with it
pub record Making (n : ℕ) (text : List ℕ) (table : Table) : Type 0 where
  pub defines : Defines (schema_at n) text table
  pub next : created (schema_at n) table ≡ schema_at (n + 1)

-- the text at a place drops a table, and leaves the schema of the next place
pub record Dropping (n : ℕ) (text : List ℕ) (table : Table) : Type 0 where
  pub means : MeansRemoved (schema_at n) text table
  pub free : HasNoReferences (schema_at n)
  pub next : without_table (schema_at n) table.tree ≡ schema_at (n + 1)

-- the text at a place makes an index of a table, and the schema of the next place with it
pub record Indexing (n : ℕ) (text : List ℕ) (table : Table) (index : Index) : Type 0 where
  pub means : MeansIndexed (schema_at n) text table index
  pub next : with_index (schema_at n) index ≡ schema_at (n + 1)

-- the text at a place leads to the schema of the next place
abbrev Advances : ℕ → List ℕ → Type 0
Advances n text = ((table : Table) × Making n text table) ⊎ (((table : Table) × Dropping n text table) ⊎ ((table : Table) × (index : Index) × Indexing n text table index))

office_made : Making 0 office_text office
unfolding schema_at understood everything
office_made = record { defines = record { command = refl; whole = refl; plain = (refl, refl); defined = refl; uncounted = refl }; next = refl }

entry_made : Making 1 entry_text entry
unfolding schema_at understood everything
entry_made = record { defines = record { command = refl; whole = refl; plain = (refl, refl); defined = refl; uncounted = refl }; next = refl }

aircraft_made : Making 2 aircraft_text aircraft
unfolding schema_at understood everything
aircraft_made = record { defines = record { command = refl; whole = refl; plain = (refl, refl); defined = refl; uncounted = refl }; next = refl }

place_made : Making 3 place_text place
unfolding schema_at understood everything
place_made = record { defines = record { command = refl; whole = refl; plain = (refl, refl); defined = refl; uncounted = refl }; next = refl }

component_made : Making 4 component_text component
unfolding schema_at understood everything
component_made = record { defines = record { command = refl; whole = refl; plain = (refl, refl); defined = refl; uncounted = refl }; next = refl }

programme_made : Making 5 programme_text programme
unfolding schema_at understood everything
programme_made = record { defines = record { command = refl; whole = refl; plain = (refl, refl); defined = refl; uncounted = refl }; next = refl }

task_made : Making 6 task_text task
unfolding schema_at understood everything
task_made = record { defines = record { command = refl; whole = refl; plain = (refl, refl); defined = refl; uncounted = refl }; next = refl }

opening_made : Making 7 opening_text opening
unfolding schema_at understood everything
opening_made = record { defines = record { command = refl; whole = refl; plain = (refl, refl); defined = refl; uncounted = refl }; next = refl }

crs_made : Making 8 crs_text crs
unfolding schema_at understood everything
crs_made = record { defines = record { command = refl; whole = refl; plain = (refl, refl); defined = refl; uncounted = refl }; next = refl }

crs_line_made : Making 9 crs_line_text crs_line
unfolding schema_at understood everything
crs_line_made = record { defines = record { command = refl; whole = refl; plain = (refl, refl); defined = refl; uncounted = refl }; next = refl }

extension_made : Making 10 extension_text extension
unfolding schema_at understood everything
extension_made = record { defines = record { command = refl; whole = refl; plain = (refl, refl); defined = refl; uncounted = refl }; next = refl }

defect_made : Making 11 defect_text defect
unfolding schema_at understood everything
defect_made = record { defines = record { command = refl; whole = refl; plain = (refl, refl); defined = refl; uncounted = refl }; next = refl }

sector1_made : Making 12 sector1_text sector1
unfolding schema_at understood everything
sector1_made = record { defines = record { command = refl; whole = refl; plain = (refl, refl); defined = refl; uncounted = refl }; next = refl }

fit1_made : Making 13 fit1_text fit1
unfolding schema_at understood everything
fit1_made = record { defines = record { command = refl; whole = refl; plain = (refl, refl); defined = refl; uncounted = refl }; next = refl }

removal1_made : Making 14 removal1_text removal1
unfolding schema_at understood everything
removal1_made = record { defines = record { command = refl; whole = refl; plain = (refl, refl); defined = refl; uncounted = refl }; next = refl }

pub sector2_made : Making 15 sector2_text sector2
unfolding schema_at understood everything
sector2_made = record { defines = record { command = refl; whole = refl; plain = (refl, refl); defined = refl; uncounted = refl }; next = refl }

pub sector1_gone : Dropping 16 sector1_dropped sector1
unfolding schema_at understood everything
sector1_gone = record { means = record { at = 12; there = refl; is = refl; plain = (refl, refl); uncounted = refl }; free = none_refer (schema_at 16).tables refl; next = refl }

pub span2_made : Making 17 span2_text span2
unfolding schema_at understood everything
span2_made = record { defines = record { command = refl; whole = refl; plain = (refl, refl); defined = refl; uncounted = refl }; next = refl }

pub span2_by_component_made : Indexing 18 span2_by_component_text span2 span2_by_component
unfolding schema_at understood everything
span2_by_component_made = record { means = record { at = 15; there = refl; is = refl; whole = refl; plain = (refl, refl); defined = refl; tree = refl }; next = refl }

pub span2_by_aircraft_made : Indexing 19 span2_by_aircraft_text span2 span2_by_aircraft
unfolding schema_at understood everything
span2_by_aircraft_made = record { means = record { at = 15; there = refl; is = refl; whole = refl; plain = (refl, refl); defined = refl; tree = refl }; next = refl }

pub span2_by_remove_seq_made : Indexing 20 span2_by_remove_seq_text span2 span2_by_remove_seq
unfolding schema_at understood everything
span2_by_remove_seq_made = record { means = record { at = 15; there = refl; is = refl; whole = refl; plain = (refl, refl); defined = refl; tree = refl }; next = refl }

pub fit1_gone : Dropping 21 fit1_dropped fit1
unfolding schema_at understood everything
fit1_gone = record { means = record { at = 12; there = refl; is = refl; plain = (refl, refl); uncounted = refl }; free = none_refer (schema_at 21).tables refl; next = refl }

pub removal1_gone : Dropping 22 removal1_dropped removal1
unfolding schema_at understood everything
removal1_gone = record { means = record { at = 12; there = refl; is = refl; plain = (refl, refl); uncounted = refl }; free = none_refer (schema_at 22).tables refl; next = refl }

pub total2_made : Making 23 total2_text total2
unfolding schema_at understood everything
total2_made = record { defines = record { command = refl; whole = refl; plain = (refl, refl); defined = refl; uncounted = refl }; next = refl }

pub base2_made : Making 24 base2_text base2
unfolding schema_at understood everything
base2_made = record { defines = record { command = refl; whole = refl; plain = (refl, refl); defined = refl; uncounted = refl }; next = refl }

pub crs_line_by_defect_made : Indexing 25 crs_line_by_defect_text crs_line crs_line_by_defect
unfolding schema_at understood everything
crs_line_by_defect_made = record { means = record { at = 9; there = refl; is = refl; whole = refl; plain = (refl, refl); defined = refl; tree = refl }; next = refl }

pub extension_by_defect_made : Indexing 26 extension_by_defect_text extension extension_by_defect
unfolding schema_at understood everything
extension_by_defect_made = record { means = record { at = 10; there = refl; is = refl; whole = refl; plain = (refl, refl); defined = refl; tree = refl }; next = refl }

pub defect_by_aircraft_made : Indexing 27 defect_by_aircraft_text defect defect_by_aircraft
unfolding schema_at understood everything
defect_by_aircraft_made = record { means = record { at = 11; there = refl; is = refl; whole = refl; plain = (refl, refl); defined = refl; tree = refl }; next = refl }

pub defect3_made : Making 28 defect3_text defect3
unfolding schema_at understood everything
defect3_made = record { defines = record { command = refl; whole = refl; plain = (refl, refl); defined = refl; uncounted = refl }; next = refl }

pub defect_gone : Dropping 29 defect_dropped defect
unfolding schema_at understood everything
defect_gone = record { means = record { at = 11; there = refl; is = refl; plain = (refl, refl); uncounted = refl }; free = none_refer (schema_at 29).tables refl; next = refl }

pub done3_made : Making 30 done3_text done3
unfolding schema_at understood everything
done3_made = record { defines = record { command = refl; whole = refl; plain = (refl, refl); defined = refl; uncounted = refl }; next = refl }

pub base2_gone : Dropping 31 base2_dropped base2
unfolding schema_at understood everything
base2_gone = record { means = record { at = 14; there = refl; is = refl; plain = (refl, refl); uncounted = refl }; free = none_refer (schema_at 31).tables refl; next = refl }

pub defect3_by_aircraft_made : Indexing 32 defect3_by_aircraft_text defect3 defect3_by_aircraft
unfolding schema_at understood everything
defect3_by_aircraft_made = record { means = record { at = 14; there = refl; is = refl; whole = refl; plain = (refl, refl); defined = refl; tree = refl }; next = refl }

pub sector2_by_aircraft_made : Indexing 33 sector2_by_aircraft_text sector2 sector2_by_aircraft
unfolding schema_at understood everything
sector2_by_aircraft_made = record { means = record { at = 11; there = refl; is = refl; whole = refl; plain = (refl, refl); defined = refl; tree = refl }; next = refl }

pub crs_by_item_made : Indexing 34 crs_by_item_text crs crs_by_item
unfolding schema_at understood everything
crs_by_item_made = record { means = record { at = 8; there = refl; is = refl; whole = refl; plain = (refl, refl); defined = refl; tree = refl }; next = refl }

-- texts, each of which leads on from the place before it
abbrev AllAdvance : ℕ → List (List ℕ) → Type 0
AllAdvance n [] = ⊤
AllAdvance n (text ∷ texts) = Advances n text × AllAdvance (n + 1) texts

makes : {n : ℕ} {text : List ℕ} {table : Table} → Making n text table → Advances n text
makes it = inl (_, it)

drops : {n : ℕ} {text : List ℕ} {table : Table} → Dropping n text table → Advances n text
drops it = inr (inl (_, it))

indexes : {n : ℕ} {text : List ℕ} {table : Table} {index : Index} → Indexing n text table index → Advances n text
indexes it = inr (inr (_, _, it))

all_advance : AllAdvance 0 step_texts
all_advance =
    (makes office_made, (makes entry_made, (makes aircraft_made, (makes place_made, (makes component_made, (makes programme_made, (makes task_made, (makes opening_made, (makes crs_made, (makes crs_line_made, (makes extension_made, (makes defect_made, (makes sector1_made, (makes fit1_made, (makes removal1_made, (makes sector2_made, (drops sector1_gone, (makes span2_made, (indexes span2_by_component_made, (indexes span2_by_aircraft_made, (indexes span2_by_remove_seq_made, (drops fit1_gone, (drops removal1_gone, (makes total2_made, (makes base2_made, (indexes crs_line_by_defect_made, (indexes extension_by_defect_made, (indexes defect_by_aircraft_made, (makes defect3_made, (drops defect_gone, (makes done3_made, (drops base2_gone, (indexes defect3_by_aircraft_made, (indexes sector2_by_aircraft_made, (indexes crs_by_item_made, tt)))))))))))))))))))))))))))))))))))

advance_from : (n k : ℕ) (texts : List (List ℕ)) (text : List ℕ) → AllAdvance n texts → slice_get texts k ≡ Some text → Advances (n + k) text
advance_from n k [] text all is = absurd cc
advance_from n zero (first ∷ texts) text all is =
    let same : first ≡ text = cc in
    let none : n ≡ n + 0 = omega arith in
    subst (λ m. Advances m text) none (subst (Advances n) same all.0)
advance_from n (suc k) (first ∷ texts) text all is =
    let one : n + 1 + k ≡ n + suc k = omega arith in
    subst (λ m. Advances m text) one (advance_from (n + 1) k texts text all.1 is)

-- the statement at a place, over tables without a row
pub leads : (n : ℕ) (text : List ℕ) → slice_get step_texts n ≡ Some text → (old new : State) → IsBlank (schema_at n) old.now → (r : Result ℕ Error) → ExecutesInside 0 text [] old new r
    → OnOk r (IsBlank (schema_at (n + 1)) new.now)
leads n text is old new blank r h = let here : 0 + n ≡ n = omega arith in elim (subst (λ m. Advances m text) here (advance_from 0 n step_texts text all_advance is)) [
  | inl it ↦ subst (λ s. OnOk r (IsBlank s new.now)) it.1.next (creates_blank (schema_at n) text it.0 it.1.defines old new blank r h)
  | inr (inl it) ↦ subst (λ s. OnOk r (IsBlank s new.now)) it.1.next (removes_blank (schema_at n) text it.0 it.1.means it.1.free old new blank r h)
  | inr (inr it) ↦ subst (λ s. OnOk r (IsBlank s new.now)) it.2.next (indexes_blank (schema_at n) text it.0 it.1 it.2.means old new blank r h)
]
