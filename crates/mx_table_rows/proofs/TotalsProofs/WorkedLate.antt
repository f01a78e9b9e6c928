-- Worked rows: what becomes of accomplishments when a use is entered late, by hand.
use Rattle.std.proofs.Common.{◌≡◌, ℕ, true, false, filter, refl, pos, List, [], ◌∷◌, Some, None}
use Rattle.std.specs.Prelude.{codes}
use Rattle.sqlite.specs.Order.{Row}
use Rattle.sqlite.specs.declared.types.Value.TheVariants.{Int, Text, Null}
use Rattle.sqlite_sql.specs.Ops.{binary}
use Rattle.sqlite_value.specs.Order.{value_cmp}
use lib.Ieee.{is_nan, lt}
use Rattle.mx_base.specs.declared.amounts.Use.{Use}
use Rattle.mx_base.specs.declared.rows.rows.DoneRow.{DoneRow}
use Rattle.mx_table_rows.specs.totals.Calls.{change_where}
use Rattle.mx_layout.specs.kept.Cells.{kept_done3}
use Rattle.mx_table_rows.specs.totals.Puts.{rows_instead}
use Rattle.mx_table_rows.specs.totals.Late.{is_stated, is_release_of, is_behind, is_late, value_credited, life_at, done_with}
use Rattle.mx_table_rows.specs.totals.LateSteps.{of_each, was_behind, is_any_line}

-- an accomplishment of a task of an item, by a line of an entry, with its value in minutes and cycles at day 19,786
row : (item : ℕ) (task : List ℕ) (seq line minutes cycles : ℕ) → Row
row item task seq line minutes cycles =
    Int (pos item) ∷ Text task ∷ Int (pos seq) ∷ Int (pos line) ∷ Int (pos minutes) ∷ Int (pos cycles) ∷ Int (pos 19786) ∷ Int (pos 62900) ∷ Null ∷ Null ∷ Int (pos 62800) ∷ Int (pos 899) ∷ Int (pos 19786) ∷ []

-- the release of an entry for item 5, at a moment
release : (seq moment : ℕ) → Row
release seq moment = Int (pos seq) ∷ Int (pos 5) ∷ Text (codes "C172") ∷ Int (pos moment) ∷ []

-- entry 8 released on 2024-03-01T12:00, entry 9 on 2024-03-04T12:00, and entry 10 on 2024-03-02T09:00, each by its minutes from 1970
releases : List Row
releases = release 8 28488240 ∷ release 9 28492560 ∷ release 10 28489500 ∷ []

-- a sector of 60 minutes and 1 cycle
sector : Use
sector = record { minutes = 60; cycles = 1 }

-- it landed on 2024-03-02T09:00: of item 5 what entries 9 and 10 released was at 60 minutes and 1 cycle more; an opening stays, and what was released before, and what is of another item
credited_values : change_where (is_late (4 ∷ 5 ∷ []) 28489500 releases) (value_credited sector)
    (row 5 (codes "100H") 9 1 62900 900 ∷ row 5 (codes "100H") 9 0 50000 700 ∷ row 5 (codes "ANNUAL") 8 2 62800 899 ∷ row 6 (codes "100H") 9 1 62900 900 ∷ row 4 (codes "100H") 10 3 100 2 ∷ row 5 (codes "100H") 7 1 62000 880 ∷ [])
    ≡ row 5 (codes "100H") 9 1 62960 901 ∷ row 5 (codes "100H") 9 0 50000 700 ∷ row 5 (codes "ANNUAL") 8 2 62800 899 ∷ row 6 (codes "100H") 9 1 62900 900 ∷ row 4 (codes "100H") 10 3 160 3 ∷ row 5 (codes "100H") 7 1 62000 880 ∷ []
unfolding row release releases sector binary value_cmp is_nan lt
credited_values = refl

-- an opening stands at line 0 alone
stated : (is_stated (row 5 (codes "100H") 9 0 0 0) ≡ true) × (is_stated (row 5 (codes "100H") 0 9 0 0) ≡ false)
unfolding row binary value_cmp is_nan lt
stated = (refl, refl)

-- a release is known by its entry
released : filter (is_release_of (row 5 (codes "100H") 9 8 0 0)) releases ≡ release 9 28492560 ∷ []
unfolding row release releases binary value_cmp is_nan lt
released = refl

-- behind a landing at 28492560 is what was released then, and not what was released before, nor what has no release
behind : filter (is_behind 28492560 releases) (row 5 (codes "100H") 9 1 0 0 ∷ row 5 (codes "100H") 10 1 0 0 ∷ row 5 (codes "100H") 9 0 0 0 ∷ row 5 (codes "100H") 7 1 0 0 ∷ []) ≡ row 5 (codes "100H") 9 1 0 0 ∷ []
unfolding row release releases binary value_cmp is_nan lt
behind = refl

-- the same accomplishment, of item 5
done : (seq line minutes cycles : ℕ) → DoneRow
done seq line minutes cycles = record {
  item = 5;
  task = codes "100H";
  seq = seq;
  line = line;
  value = record { minutes = minutes; cycles = cycles; day = 19786 };
  due = record { minutes = Some 62900; cycles = None; days = None };
  base = record { minutes = 62800; cycles = 899; day = 19786 };
}

-- its life then, and its value with the sector
with_sector : (life_at (done 9 1 62900 900) ≡ record { minutes = 62900; cycles = 900 }) × (done_with sector (done 9 1 62900 900) ≡ done 9 1 62960 901)
unfolding done sector
with_sector = (refl, refl)

-- what is read, by the same test
behind_read : filter (was_behind 28492560 releases) (done 9 1 0 0 ∷ done 10 1 0 0 ∷ done 9 0 0 0 ∷ []) ≡ done 9 1 0 0 ∷ []
unfolding done release releases binary value_cmp is_nan lt
behind_read = refl

-- the accomplishments of item 5, and then those of item 4
in_turn : of_each (5 ∷ 4 ∷ []) (row 4 (codes "100H") 10 3 100 2 ∷ row 5 (codes "100H") 9 1 62900 900 ∷ row 6 (codes "100H") 9 1 62900 900 ∷ []) ≡ row 5 (codes "100H") 9 1 62900 900 ∷ row 4 (codes "100H") 10 3 100 2 ∷ []
unfolding row binary value_cmp is_nan lt
in_turn = refl

-- the lines of two accomplishments are known by item, task, entry and line
any_line : filter (is_any_line (done 9 1 0 0 ∷ done 10 1 0 0 ∷ []))
    (row 5 (codes "100H") 9 1 62900 900 ∷ row 5 (codes "100H") 9 2 1 1 ∷ row 5 (codes "100H") 8 1 1 1 ∷ row 5 (codes "ANNUAL") 9 1 1 1 ∷ row 6 (codes "100H") 9 1 1 1 ∷ row 5 (codes "100H") 10 1 7 7 ∷ [])
    ≡ row 5 (codes "100H") 9 1 62900 900 ∷ row 5 (codes "100H") 10 1 7 7 ∷ []
unfolding row done binary value_cmp is_nan lt
any_line = refl

-- one comes in place of all that stands for its line
exchanged : rows_instead kept_done3 (is_any_line (done 9 1 60 1 ∷ [])) (done 9 1 60 1 ∷ []) (row 5 (codes "100H") 9 1 0 0 ∷ row 5 (codes "100H") 9 2 1 1 ∷ row 5 (codes "100H") 9 1 3 4 ∷ [])
    ≡ row 5 (codes "100H") 9 1 60 1 ∷ row 5 (codes "100H") 9 2 1 1 ∷ []
unfolding row done binary value_cmp is_nan lt
exchanged = refl
