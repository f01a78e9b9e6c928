-- Accomplishments, as rows of `done3`.
use Rattle.std.specs.Prelude.{◌≡◌, ◌≤◌, ◌-◌, ℕ, pos, Bool, List, length, slice_get, Option, ◌&&◌}
use Rattle.sqlite.specs.declared.types.Value.TheVariants.{Int, Text}
use Rattle.sqlite.specs.Order.{Row}
use Rattle.mx_base.specs.Calendar.{last_day}
use Rattle.mx_base.specs.declared.rows.rows.DoneRow.{DoneRow}
use Rattle.mx_layout.specs.kept.Cells.{kept_done3}
use Rattle.mx_table_rows.specs.chosen.Choices.{has_value}
use Rattle.mx_table_rows.specs.totals.Bases.{is_of_task}
use Rattle.mx_table_rows.specs.totals.Several.{AreExactly, HasUnreadable}

-- the row is that of this line of this entry, of this task of this item
abbrev pub is_of_line : ℕ → List ℕ → ℕ → ℕ → Row → Bool
is_of_line item task seq line row = has_value 0 (Int (pos item)) row && (has_value 1 (Text task) row && (has_value 2 (Int (pos seq)) row && has_value 3 (Int (pos line)) row))

-- the row is that of the line of this accomplishment
abbrev pub is_own_line : DoneRow → Row → Bool
is_own_line x row = is_of_line x.item x.task x.seq x.line row

-- both days of the accomplishment are in the calendar
pub record IsDated (row : DoneRow) : Type 0 where
  pub value : row.value.day ≤ last_day
  pub base : row.base.day ≤ last_day

-- exactly the accomplishments of the task of the item among the rows, in the order of the table
abbrev pub AreDone : ℕ → List ℕ → List Row → List DoneRow → Type 0
AreDone item task rows done = AreExactly kept_done3 (is_of_task item task) rows done

-- the last of the accomplishments of the task of the item among the rows, in the order of the table, or none where there is none
pub record IsLastDone (item : ℕ) (task : List ℕ) (rows : List Row) (last : Option DoneRow) : Type 0 where
  pub done : List DoneRow
  pub exactly : AreDone item task rows done
  pub is : last ≡ slice_get done (length done - 1)

-- an accomplishment of the task of the item is none of the type
abbrev pub HasOtherDone : ℕ → List ℕ → List Row → Type 0
HasOtherDone item task rows = HasUnreadable kept_done3 (is_of_task item task) rows
