-- The limits of an aircraft: the last day of each of its open defects.
use Rattle.std.specs.Prelude.{ℕ, ℤ, pos, int_lt, List, map, Bool, Option}
use Rattle.std.specs.Option.{option_map}
use Rattle.mx_book.specs.commands.Act.{Entry}
use Rattle.mx_book.specs.due.Left.{left_until}
use Rattle.mx_book.specs.due.Status.{status_by}
use Rattle.mx_book.specs.declared.defects.Defect.{Defect}
use Rattle.mx_book.specs.Register.{aircraft}
use Rattle.mx_book.specs.Defect.{days_extended, day_found, last_permitted, letter_of, open_defects}
use Rattle.mx_lists.specs.declared.limit_list.LimitRow.{LimitRow}
use Rattle.mx_lists.specs.declared.limit_list.LimitList.{LimitList}
use Rattle.mx_lists.specs.Order.{in_order}

-- the days that are left on a day until the last one of a defect
abbrev pub days_left : List Entry → ℕ → Defect → ℤ
days_left book day d = left_until day (last_permitted book d)

-- the row of a defect: there is no tolerance
abbrev pub limit_row : List Entry → ℕ → Defect → LimitRow
limit_row book day d = record {
  status = status_by 0 (days_left book day d);
  doc = d.doc;
  letter = letter_of d.deferral.category;
  reference = d.deferral.reference;
  found = day_found d;
  extension = days_extended book d.doc;
  last = pos (last_permitted book d);
  left = days_left book day d;
}

-- one row comes before another: by their last days
abbrev pub limit_before : LimitRow → LimitRow → Bool
limit_before a b = int_lt a.last b.last

-- the rows of the open defects of an aircraft by their last days, those of one day in the order of their entries
abbrev pub limit_rows : List Entry → List ℕ → ℕ → List LimitRow
limit_rows book tail day = in_order limit_before (map (limit_row book day) (open_defects book tail))

-- the limits of an aircraft on a day
abbrev pub limits : List Entry → List ℕ → ℕ → Option LimitList
limits book tail day = option_map (λ a. record { tail = tail; day = day; rows = limit_rows book tail day }) (aircraft book tail)
