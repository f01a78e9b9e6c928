-- Worked rows: what becomes of the rows of totals, spans and last bases, by hand.
use Rattle.std.proofs.Common.{◌≡◌, ℕ, refl, Some, None, Ok, Err, pos, filter, List, [], ◌∷◌}
use Rattle.std.specs.Prelude.{codes}
use Rattle.sqlite.specs.Order.{Row}
use Rattle.sqlite.specs.declared.types.Value.TheVariants.{Int, Text, Null}
use Rattle.sqlite_sql.specs.Ops.{binary}
use Rattle.sqlite_value.specs.Order.{value_cmp}
use lib.Ieee.{is_nan, lt}
use Rattle.mx_base.specs.declared.amounts.Use.{Use}
use Rattle.mx_layout.specs.declared.fault.Table.TheVariants.{Total2, Base2}
use Rattle.mx_layout.specs.declared.fault.TableFault.TheVariants.{Store, Damaged}
use Rattle.mx_table_rows.specs.totals.Bases.{is_of_task}
use Rattle.mx_table_rows.specs.totals.Calls.{change_where}
use Rattle.mx_table_rows.specs.totals.Single.{one_in, only_of, one_or_none_in, one_or_none_of}
use Rattle.mx_table_rows.specs.totals.Spans.{ended, fitted_by}
use Rattle.mx_table_rows.specs.totals.Totals.{clocked, credited, is_of_any, is_of_item, life_with, total_row, total_with, totals_put}

-- 60,000 minutes and 800 cycles of items 1 and 2, 1,000 and 100 of item 3, up to the first moment of 2024
row : (item minutes cycles clock : ℕ) → Row
row item minutes cycles clock = Int (pos item) ∷ Int (pos minutes) ∷ Int (pos cycles) ∷ Int (pos clock) ∷ []

abbrev three : List Row
three = row 1 60000 800 28401120 ∷ row 2 60000 800 28401120 ∷ row 3 1000 100 28401120 ∷ []

-- a sector of 30 minutes and one cycle
abbrev sector : Use
sector = record { minutes = 30; cycles = 1 }

-- it is credited to items 1 and 2
credited_rows : change_where (is_of_any (1 ∷ 2 ∷ [])) (credited sector) three ≡ row 1 60030 801 28401120 ∷ row 2 60030 801 28401120 ∷ row 3 1000 100 28401120 ∷ []
unfolding row binary value_cmp is_nan lt
credited_rows = refl

-- and to none
uncredited_rows : change_where (is_of_any []) (credited sector) three ≡ three
unfolding row binary value_cmp is_nan lt
uncredited_rows = refl

-- the clock of item 2 is set
clocked_rows : change_where (is_of_item 2) (clocked 28445370) three ≡ row 1 60000 800 28401120 ∷ row 2 60000 800 28445370 ∷ row 3 1000 100 28401120 ∷ []
unfolding row binary value_cmp is_nan lt
clocked_rows = refl

-- minutes are added to minutes, and cycles to cycles
life_flown : life_with (record { minutes = 1000; cycles = 100 }) sector ≡ record { minutes = 1030; cycles = 101 }
life_flown = refl

added_row : total_row 4 (record { life = record { minutes = 7; cycles = 8 }; clock = 9 }) ≡ record { item = 4; life = record { minutes = 7; cycles = 8 }; clock = 9 }
added_row = refl

-- totals of items 3 and 1 are written in place of theirs, one after another
put_rows : totals_put (record { item = 3; life = record { minutes = 1030; cycles = 101 }; clock = 28401120 } ∷ record { item = 1; life = record { minutes = 60030; cycles = 801 }; clock = 28401120 } ∷ []) three
    ≡ row 1 60030 801 28401120 ∷ row 3 1030 101 28401120 ∷ row 2 60000 800 28401120 ∷ []
unfolding row binary value_cmp is_nan lt
put_rows = refl

-- the span that entry 4 began, of component 2 at aircraft 1, is ended by entry 6
ended_span : ended 6 28459200 (Int (pos 4) ∷ Int (pos 2) ∷ Int (pos 1) ∷ Text (codes "ENG") ∷ Int (pos 28401120) ∷ Null ∷ Null ∷ [])
    ≡ Int (pos 4) ∷ Int (pos 2) ∷ Int (pos 1) ∷ Text (codes "ENG") ∷ Int (pos 28401120) ∷ Int (pos 6) ∷ Int (pos 28459200) ∷ []
ended_span = refl

-- a base is known by its item and its task
bases_of : filter (is_of_task 1 (codes "100H")) ((Int (pos 1) ∷ Text (codes "100H") ∷ []) ∷ (Int (pos 1) ∷ Text (codes "ANNUAL") ∷ []) ∷ (Int (pos 2) ∷ Text (codes "100H") ∷ []) ∷ [])
    ≡ (Int (pos 1) ∷ Text (codes "100H") ∷ []) ∷ []
unfolding binary value_cmp is_nan lt
bases_of = refl

-- one row is taken where there is one, and a table with more is damaged
found_one : (one_in {X = ℕ} Total2 (7 ∷ []) ≡ Ok 7) × (one_in {X = ℕ} Total2 (7 ∷ 8 ∷ []) ≡ Err (Damaged Total2)) × (one_in {X = ℕ} Total2 [] ≡ Err (Damaged Total2))
found_one = (refl, refl, refl)

found_any : (one_or_none_in {X = ℕ} Base2 (7 ∷ []) ≡ Ok (Some 7)) × (one_or_none_in {X = ℕ} Base2 (7 ∷ 8 ∷ []) ≡ Err (Damaged Base2)) × (one_or_none_in {X = ℕ} Base2 [] ≡ Ok None)
found_any = (refl, refl, refl)

-- what stopped the reading is told
stopped : (only_of {X = ℕ} {A = ℕ} Total2 (Err Store) ≡ Err Store) × (one_or_none_of {X = ℕ} {A = ℕ} Base2 (Err Store) ≡ Err Store)
stopped = (refl, refl)

-- the position and the component of a span
fitted : fitted_by (record { fit_seq = 4; component = 2; aircraft = 1; position = codes "ENG"; from = 28401120; remove_seq = None; to = None }) ≡ record { position = codes "ENG"; component = 2 }
fitted = refl

-- a total keeps its item and its clock
flown : total_with sector (record { item = 3; life = record { minutes = 1000; cycles = 100 }; clock = 28401120 }) ≡ record { item = 3; life = record { minutes = 1030; cycles = 101 }; clock = 28401120 }
flown = refl
