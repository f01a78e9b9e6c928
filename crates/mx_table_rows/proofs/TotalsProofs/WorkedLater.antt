-- Worked rows: what becomes of the rows of deferrals, and which row is that of an accomplishment, by hand.
use Rattle.std.proofs.Common.{◌≡◌, ℕ, ◌+◌, true, false, map, arith, refl, pos, filter, List, [], ◌∷◌, Some, None}
use Rattle.std.specs.Prelude.{codes}
use Rattle.sqlite.specs.Order.{Row}
use Rattle.sqlite.specs.declared.types.Value.TheVariants.{Int, Text, Null}
use Rattle.sqlite_sql.specs.Ops.{binary}
use Rattle.sqlite_value.specs.Order.{value_cmp}
use lib.Ieee.{is_nan, lt}
use Rattle.mx_base.specs.declared.category.Category.TheVariants.{C}
use Rattle.mx_base.specs.declared.amounts.Base.{Base}
use Rattle.mx_base.specs.declared.rows.rows.Deferral3Row.{Deferral3Row}
use Rattle.mx_base.specs.declared.rows.rows.DoneRow.{DoneRow}
use Rattle.mx_book.specs.due.Due.{IsLife}
use Rattle.mx_table_rows.specs.totals.Calls.{change_where}
use Rattle.mx_table_rows.specs.totals.Done.{is_of_line, is_own_line}
use Rattle.mx_table_rows.specs.declared.totals.lives.TheConstants.{MOST_CYCLES}
use Rattle.mx_table_rows.specs.totals.Found.{is_from, is_found_from, is_own_defect, found_later, was_found_from, found_with}

-- a defect of an aircraft, of category C, found at a moment and at so many cycles
row : (seq aircraft moment found : ℕ) → Row
row seq aircraft moment found = Int (pos seq) ∷ Int (pos aircraft) ∷ Int (pos moment) ∷ Text (codes "24-1") ∷ Int (pos 3) ∷ Null ∷ Null ∷ Int (pos found) ∷ []

-- a landing at 28401200 with 2 cycles is entered late, of aircraft 1: its defects from then on were found at 2 cycles more
shifted_rows : change_where (is_found_from 1 28401200) (found_later 2) (row 4 1 28401199 800 ∷ row 5 1 28401200 801 ∷ row 6 2 28401300 90 ∷ row 7 1 28401300 805 ∷ [])
    ≡ row 4 1 28401199 800 ∷ row 5 1 28401200 803 ∷ row 6 2 28401300 90 ∷ row 7 1 28401300 807 ∷ []
unfolding row binary value_cmp is_nan lt
shifted_rows = refl

-- what is no number is at no moment
from_nothing : (is_from 0 Null ≡ false) × (is_from 0 (Int (pos 0)) ≡ true)
from_nothing = (refl, refl)

-- the same defect, of entry 5 of aircraft 1
found_at : (moment found : ℕ) → Deferral3Row
found_at moment found = record { deferral = record { seq = 5; aircraft = 1; moment = moment; reference = codes "24-1"; category = C }; found_cycles = found }

-- what was found before the landing is left
found_from : map (found_with 2) (filter (was_found_from 28401200) (found_at 28401199 800 ∷ found_at 28401200 801 ∷ found_at 28401300 805 ∷ [])) ≡ found_at 28401200 803 ∷ found_at 28401300 807 ∷ []
unfolding found_at
found_from = refl

-- a deferral is known by its entry
found_by : filter (is_own_defect (found_at 28401200 801)) (row 1 5 28401200 801 ∷ row 5 2 28401300 90 ∷ row 6 1 28401200 801 ∷ []) ≡ row 5 2 28401300 90 ∷ []
unfolding row found_at binary value_cmp is_nan lt
found_by = refl

-- a life has so many cycles, and no more
most_of_a_life : IsLife (record { minutes = 0; cycles = MOST_CYCLES }) × ¬ IsLife (record { minutes = 0; cycles = MOST_CYCLES + 1 })
most_of_a_life = (record { minutes = omega arith; cycles = omega arith }, λ life. absurd (omega (arith, life.cycles)))

-- the first columns of an accomplishment: its item, its task, the entry and the line there
done : (item : ℕ) (task : List ℕ) (seq line : ℕ) → Row
done item task seq line = Int (pos item) ∷ Text task ∷ Int (pos seq) ∷ Int (pos line) ∷ []

-- an accomplishment is known by all four
done_of : filter (is_of_line 1 (codes "100H") 9 2) (done 2 (codes "100H") 9 2 ∷ done 1 (codes "ANNUAL") 9 2 ∷ done 1 (codes "100H") 8 2 ∷ done 1 (codes "100H") 9 1 ∷ done 1 (codes "100H") 9 2 ∷ [])
    ≡ done 1 (codes "100H") 9 2 ∷ []
unfolding done binary value_cmp is_nan lt
done_of = refl

-- the accomplishment of line 2 of entry 9
accomplishment : DoneRow
accomplishment =
    let reached : Base = record { minutes = 62900; cycles = 900; day = 19786 } in
    record { item = 1; task = codes "100H"; seq = 9; line = 2; value = reached; due = record { minutes = Some 63000; cycles = None; days = None }; base = reached }

-- and so is its own
own_done : filter (is_own_line accomplishment) (done 2 (codes "100H") 9 2 ∷ done 1 (codes "ANNUAL") 9 2 ∷ done 1 (codes "100H") 2 9 ∷ done 1 (codes "100H") 9 1 ∷ done 1 (codes "100H") 9 2 ∷ [])
    ≡ done 1 (codes "100H") 9 2 ∷ []
unfolding done accomplishment binary value_cmp is_nan lt
own_done = refl
