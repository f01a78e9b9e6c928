-- The accomplishments of a task as rows whose values have grown: what becomes of due and base by the rows alone.
use Rattle.std.specs.Prelude.{ℕ, ◌+◌, ◌-◌, List, [], ◌∷◌, Option, Some, None}
use Rattle.std.specs.Option.{option_map}
use Rattle.mx_base.specs.declared.amounts.Base.{Base}
use Rattle.mx_base.specs.declared.amounts.Limit.{Limit}
use Rattle.mx_base.specs.declared.rows.rows.DoneRow.{DoneRow}
use Rattle.mx_book.specs.due.Due.{base_by_due}

-- in each dimension the value, or the due where that is less
abbrev pub lesser_of : Base → Limit → Base
lesser_of value due = base_by_due (record { minutes = value.minutes; cycles = value.cycles }) value.day due

-- the row with another due, and the base that this leaves of its value
abbrev pub row_with : DoneRow → Limit → DoneRow
row_with row due = record row { due = due; base = lesser_of row.value due }

-- a due in one dimension, moved as far as the base was that it is counted from
abbrev pub moved_by : ℕ → ℕ → Option ℕ → Option ℕ
moved_by old new due = option_map (λ n. n + (new - old)) due

-- a due, moved as far as the base was that it is counted from; one that is counted from none stays
abbrev pub due_moved : Option Base → Option Base → Limit → Limit
due_moved None new due = due
due_moved (Some old) None due = due
due_moved (Some old) (Some new) due = record { minutes = moved_by old.minutes new.minutes due.minutes; cycles = moved_by old.cycles new.cycles due.cycles; days = moved_by old.day new.day due.days }

-- rows of a task of an item whose values have grown, due and base of each anew: the due is moved as far as the base of the row before it, from that to this
abbrev pub moved : Option Base → Option Base → List DoneRow → List DoneRow
moved old new [] = []
moved old new (row ∷ rows) = row_with row (due_moved old new row.due) ∷ moved (Some row.base) (Some (lesser_of row.value (due_moved old new row.due))) rows
