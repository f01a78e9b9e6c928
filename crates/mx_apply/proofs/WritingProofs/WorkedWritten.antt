-- Worked rows: what the rows of a command make of the rows of each table, and which rows they come in place of.
use Rattle.std.proofs.Common.{refl, ◌≡◌, ◌++◌, ℕ, List, [], ◌∷◌, map, filter, pos, Some, ap}
use Rattle.std.specs.Prelude.{codes}
use Rattle.sqlite.specs.declared.types.Value.TheVariants.{Int, Text, Null}
use Rattle.sqlite.specs.Order.{Row, value_cmp}
use Rattle.sqlite.specs.Ops.{binary}
use lib.Ieee.{is_nan, lt}
use Rattle.mx_base.specs.declared.rows.rows.BaseRow.{BaseRow}
use Rattle.mx_base.specs.declared.rows.rows.SpanRow.{SpanRow}
use Rattle.mx_base.specs.declared.rows.rows.TotalRow.{TotalRow}
use Rattle.mx_row_rules.specs.declared.changes.rows.AddedRows.{AddedRows}
use Rattle.mx_row_rules.specs.declared.changes.rows.ChangedRows.{ChangedRows}
use Rattle.mx_row_rules.specs.declared.changes.rows.CommandRows.{CommandRows}
use Rattle.mx_layout.specs.Point.{point_cells}
use Rattle.mx_layout.specs.declared.fault.Table.TheVariants as table
use Rattle.mx_layout.specs.kept.Cells.{kept_aircraft, kept_base2, kept_component, kept_crs, kept_crs_line, kept_defect, kept_entry, kept_extension, kept_opening, kept_place, kept_programme, kept_sector2, kept_span2, kept_task, kept_total2}
use Rattle.mx_apply.specs.writing.Changes.{all_in_place, in_place, less}
use Rattle.mx_apply.specs.writing.Written.{is_same_base, is_same_span, is_same_total, with_added, with_changed, with_rows, written_point}

-- the row of `office` of the files that are written: layout 2, no step, up to no entry
written_row : point_cells written_point ≡ Int (pos 1) ∷ Int (pos 2) ∷ Int (pos 0) ∷ Int (pos 0) ∷ []
written_row = refl

-- ── rows ──

-- the total of an item, and as the row of its table: its minutes, its cycles, and the first moment of 2024
abbrev total : ℕ → ℕ → ℕ → TotalRow
total item minutes cycles = record { item = item; life = record { minutes = minutes; cycles = cycles }; clock = 28401120 }

abbrev total_cells : ℕ → ℕ → ℕ → Row
total_cells item minutes cycles = Int (pos item) ∷ Int (pos minutes) ∷ Int (pos cycles) ∷ Int (pos 28401120) ∷ []

abbrev totals : List Row
totals = total_cells 1 60000 800 ∷ total_cells 2 1000 100 ∷ total_cells 3 2000 200 ∷ []

-- the span of component 2 at aircraft 1, from then on until entry 6 ends it, and as a row
abbrev ended_span : SpanRow
ended_span = record { fit_seq = 4; component = 2; aircraft = 1; position = codes "ENG"; from = 28401120; remove_seq = Some 6; to = Some 28459200 }

abbrev ended_cells : Row
ended_cells = Int (pos 4) ∷ Int (pos 2) ∷ Int (pos 1) ∷ Text (codes "ENG") ∷ Int (pos 28401120) ∷ Int (pos 6) ∷ Int (pos 28459200) ∷ []

-- while it is open, beside the span of component 4 that entry 5 began
abbrev open_cells : ℕ → ℕ → Row
open_cells n component = Int (pos n) ∷ Int (pos component) ∷ Int (pos 1) ∷ Text (codes "ENG") ∷ Int (pos 28401120) ∷ Null ∷ Null ∷ []

abbrev spans : List Row
spans = open_cells 5 4 ∷ open_cells 4 2 ∷ []

abbrev base : ℕ → List ℕ → ℕ → BaseRow
base item task day = record { item = item; task = task; life = record { minutes = 60000; cycles = 800 }; day = day }

abbrev base_cells : ℕ → List ℕ → ℕ → Row
base_cells item task day = Int (pos item) ∷ Text task ∷ Int (pos 60000) ∷ Int (pos 800) ∷ Int (pos day) ∷ []

abbrev bases : List Row
bases = base_cells 1 (codes "ANNUAL") 19700 ∷ base_cells 1 (codes "100H") 19700 ∷ base_cells 2 (codes "100H") 19700 ∷ []

-- ── in place of others ──

same_total : filter (is_same_total (total 2 7 7)) totals ≡ total_cells 2 1000 100 ∷ []
unfolding binary value_cmp is_nan lt
same_total = refl

same_span : filter (is_same_span ended_span) spans ≡ open_cells 4 2 ∷ []
unfolding binary value_cmp is_nan lt
same_span = refl

same_base : filter (is_same_base (base 1 (codes "100H") 7)) bases ≡ base_cells 1 (codes "100H") 19700 ∷ []
unfolding binary value_cmp is_nan lt
same_base = refl

-- of its own table alone
without_one : map (λ name. less kept_total2 (is_same_total (total 2 7 7)) name totals) (table.Total2 ∷ table.Base2 ∷ []) ≡ (total_cells 1 60000 800 ∷ total_cells 3 2000 200 ∷ []) ∷ totals ∷ []
unfolding binary value_cmp is_nan lt
without_one = refl

in_place_of_one : map (λ name. in_place kept_total2 (is_same_total (total 2 7 7)) (total 2 1090 101) name totals) (table.Total2 ∷ table.Base2 ∷ [])
    ≡ (total_cells 2 1090 101 ∷ total_cells 1 60000 800 ∷ total_cells 3 2000 200 ∷ []) ∷ totals ∷ []
unfolding binary value_cmp is_nan lt
in_place_of_one = refl

-- one after another, the last of them first
in_place_of_two : all_in_place kept_total2 is_same_total (total 1 60090 801 ∷ total 2 1090 101 ∷ []) table.Total2 totals ≡ total_cells 2 1090 101 ∷ total_cells 1 60090 801 ∷ total_cells 3 2000 200 ∷ []
unfolding binary value_cmp is_nan lt
in_place_of_two = refl

in_place_of_none : all_in_place kept_total2 is_same_total (total 4 7 7 ∷ []) table.Total2 totals ≡ total_cells 4 7 7 ∷ totals
unfolding binary value_cmp is_nan lt
in_place_of_none = refl

-- ── of each table ──

-- what is added comes on top of the rows of its table: of items, of what maintains them, of releases, of defects, and of what was flown
items_added : (v : AddedRows) (rows : List Row) → map (λ name. with_added v name rows) (table.Aircraft ∷ table.Place ∷ table.Component ∷ [])
    ≡ (map kept_aircraft.as_cells v.aircraft.items ++ rows) ∷ (map kept_place.as_cells v.places.items ++ rows) ∷ (map kept_component.as_cells v.components.items ++ rows) ∷ []
items_added v rows = refl

upkeep_added : (v : AddedRows) (rows : List Row) → map (λ name. with_added v name rows) (table.Programme ∷ table.Task ∷ table.Opening ∷ [])
    ≡ (map kept_programme.as_cells v.programmes.items ++ rows) ∷ (map kept_task.as_cells v.tasks.items ++ rows) ∷ (map kept_opening.as_cells v.openings.items ++ rows) ∷ []
upkeep_added v rows = refl

releases_added : (v : AddedRows) (rows : List Row) → map (λ name. with_added v name rows) (table.Crs ∷ table.CrsLine ∷ table.Defect ∷ table.Extension ∷ [])
    ≡ (map kept_crs.as_cells v.releases.items ++ rows) ∷ (map kept_crs_line.as_cells v.release_lines.items ++ rows) ∷ (map kept_defect.as_cells v.deferrals.items ++ rows)
    ∷ (map kept_extension.as_cells v.extensions.items ++ rows) ∷ []
releases_added v rows = refl

use_added : (v : AddedRows) (rows : List Row) → map (λ name. with_added v name rows) (table.Sector2 ∷ table.Span2 ∷ table.Total2 ∷ [])
    ≡ (map (λ row. kept_sector2.as_cells row.sector) v.sectors.items ++ rows) ∷ (map kept_span2.as_cells v.spans.items ++ rows) ∷ (map kept_total2.as_cells v.totals.items ++ rows) ∷ []
use_added v rows = refl

-- and nothing to the point, the entries, the last bases and the tables of layout 1
none_added : (v : AddedRows) (rows : List Row) → map (λ name. with_added v name rows) (table.Office ∷ table.Entry ∷ table.Base2 ∷ table.Sector1 ∷ table.Fit1 ∷ table.Removal1 ∷ []) ≡ rows ∷ rows ∷ rows ∷ rows ∷ rows ∷ rows ∷ []
none_added v rows = refl

-- these are the rows that a command changes
record Changes (v : ChangedRows) (ended : List SpanRow) (moved : List TotalRow) (set : List BaseRow) : Type 0 where
  spans : v.spans.items ≡ ended
  totals : v.totals.items ≡ moved
  bases : v.bases.items ≡ set

-- the same value of three equal lists
of_three : {A B C D : Type 0} (f : A → B → C → D) {a x : A} {b y : B} {c z : C} → a ≡ x → b ≡ y → c ≡ z → f a b c ≡ f x y z
of_three f one two three = cc

-- a span is ended, two totals are moved, and a last base is set, each in its table
abbrev all_three : ChangedRows → Type 0
all_three v = Changes v (ended_span ∷ []) (total 1 60090 801 ∷ total 2 1090 101 ∷ []) (base 1 (codes "100H") 19784 ∷ [])

spans_changed : (v : ChangedRows) → all_three v → with_changed v table.Span2 spans ≡ ended_cells ∷ open_cells 5 4 ∷ []
unfolding binary value_cmp is_nan lt
spans_changed v is = of_three (λ ended moved set. all_in_place kept_base2 is_same_base set table.Span2 (all_in_place kept_total2 is_same_total moved table.Span2 (all_in_place kept_span2 is_same_span ended table.Span2 spans))) is.spans is.totals is.bases

totals_changed : (v : ChangedRows) → all_three v → with_changed v table.Total2 totals ≡ total_cells 2 1090 101 ∷ total_cells 1 60090 801 ∷ total_cells 3 2000 200 ∷ []
unfolding binary value_cmp is_nan lt
totals_changed v is = of_three (λ ended moved set. all_in_place kept_base2 is_same_base set table.Total2 (all_in_place kept_total2 is_same_total moved table.Total2 (all_in_place kept_span2 is_same_span ended table.Total2 totals))) is.spans is.totals is.bases

bases_changed : (v : ChangedRows) → all_three v → with_changed v table.Base2 bases ≡ base_cells 1 (codes "100H") 19784 ∷ base_cells 1 (codes "ANNUAL") 19700 ∷ base_cells 2 (codes "100H") 19700 ∷ []
unfolding binary value_cmp is_nan lt
bases_changed v is = of_three (λ ended moved set. all_in_place kept_base2 is_same_base set table.Base2 (all_in_place kept_total2 is_same_total moved table.Base2 (all_in_place kept_span2 is_same_span ended table.Base2 bases))) is.spans is.totals is.bases

-- the row of the entry comes on top of the others, and what is added behind what is changed
entry_written : (x : CommandRows) → all_three x.changed → (rows : List Row) → with_rows x table.Entry rows ≡ kept_entry.as_cells x.entry ∷ rows
entry_written x is rows =
    of_three (λ ended moved set. all_in_place kept_base2 is_same_base set table.Entry (all_in_place kept_total2 is_same_total moved table.Entry (all_in_place kept_span2 is_same_span ended table.Entry (kept_entry.as_cells x.entry ∷ rows)))) is.spans is.totals is.bases

totals_written : (x : CommandRows) → all_three x.changed → with_rows x table.Total2 totals ≡ map kept_total2.as_cells x.added.totals.items ++ total_cells 2 1090 101 ∷ total_cells 1 60090 801 ∷ total_cells 3 2000 200 ∷ []
totals_written x is = ap (with_added x.added table.Total2) (totals_changed x.changed is)
