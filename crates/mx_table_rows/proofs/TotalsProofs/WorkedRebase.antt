-- Worked rows: what becomes of the accomplishments of a task whose values have grown, and what was fitted during a flight, by hand.
use Rattle.std.proofs.Common.{◌≡◌, ℕ, refl, Some, None, Option, map, filter, [], ◌∷◌}
use Rattle.std.specs.Prelude.{codes}
use Rattle.sqlite_sql.specs.Ops.{binary}
use Rattle.sqlite_value.specs.Order.{value_cmp}
use lib.Ieee.{is_nan, lt}
use Rattle.mx_base.specs.declared.amounts.Base.{Base}
use Rattle.mx_base.specs.declared.rows.rows.DoneRow.{DoneRow}
use Rattle.mx_base.specs.declared.rows.rows.SpanRow.{SpanRow}
use Rattle.mx_book.specs.due.Moved.{moved}
use Rattle.mx_layout.specs.kept.Cells.{kept_done3}
use Rattle.mx_table_rows.specs.totals.Bases.{is_of_task}
use Rattle.mx_table_rows.specs.totals.Puts.{rows_added, rows_instead}
use Rattle.mx_table_rows.specs.totals.Spans.{was_fitted, component_of}

-- minutes, cycles and a day that were reached
abbrev reached : ℕ → ℕ → ℕ → Base
reached minutes cycles day = record { minutes = minutes; cycles = cycles; day = day }

-- an inspection of item 5, each 6,000 minutes: the value, when it was due, and the base
abbrev inspection : ℕ → Base → ℕ → Base → DoneRow
inspection seq value due base = record { item = 5; task = codes "100H"; seq = seq; line = 1; value = value; due = record { minutes = Some due; cycles = None; days = None }; base = base }

-- a flight of 60 minutes and a cycle was entered late: it is in the value of the first inspection, and not yet in its base
abbrev first : DoneRow
first = inspection 9 (reached 62960 901 19786) 63000 (reached 62900 900 19786)

-- the next was due 6,000 minutes behind that base, and done later than that
abbrev second : DoneRow
second = inspection 12 (reached 69060 921 19900) 68900 (reached 68900 920 19900)

-- and again 6,000 minutes behind the base, but earlier
abbrev third : DoneRow
third = inspection 15 (reached 74000 941 20000) 74900 (reached 73940 940 20000)

-- another task, and the same one of another item
abbrev annual : DoneRow
annual = record second { task = codes "ANNUAL" }

abbrev of_another : DoneRow
of_another = record second { item = 6 }

-- the first base becomes the value, and the dues behind it are 60 minutes later; of three in a row the last was done before it was due, so its base is its value
moved_rows : moved None None (first ∷ second ∷ third ∷ [])
    ≡ inspection 9 (reached 62960 901 19786) 63000 (reached 62960 901 19786) ∷ inspection 12 (reached 69060 921 19900) 68960 (reached 68960 921 19900) ∷ inspection 15 (reached 74000 941 20000) 74960 (reached 74000 941 20000) ∷ []
moved_rows = refl

-- they stand in place of all rows of the task, and what is not of it stays
rebased_rows : rows_instead kept_done3 (is_of_task 5 (codes "100H")) (moved None None (first ∷ second ∷ [])) (map kept_done3.as_cells (annual ∷ first ∷ of_another ∷ second ∷ []))
    ≡ map kept_done3.as_cells (inspection 9 (reached 62960 901 19786) 63000 (reached 62960 901 19786) ∷ inspection 12 (reached 69060 921 19900) 68960 (reached 68960 921 19900) ∷ annual ∷ of_another ∷ [])
unfolding binary value_cmp is_nan lt
rebased_rows = refl

added_rows : rows_added kept_done3 (first ∷ []) (map kept_done3.as_cells (annual ∷ [])) ≡ map kept_done3.as_cells (first ∷ annual ∷ [])
added_rows = refl

-- a span of a component in aircraft 1
abbrev span : ℕ → ℕ → Option ℕ → SpanRow
span component from to = record { fit_seq = 4; component = component; aircraft = 1; position = codes "ENG"; from = from; remove_seq = None; to = to }

-- a flight of an hour: what was fitted before and is there still, or was from take-off to landing, or less
during_flight : map component_of (filter (was_fitted 28401200 28401260) (span 2 28401120 None ∷ span 3 28401200 (Some 28401260) ∷ span 5 28401201 None ∷ span 6 28401120 (Some 28401259) ∷ [])) ≡ 2 ∷ 3 ∷ []
during_flight = refl
