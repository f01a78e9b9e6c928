-- The accomplishments of a book as rows: what an item had reached at each, when its task was due then, and the base that this leaves.
use Rattle.std.specs.Prelude.{⊤, ◌≡◌, ℕ, ◌+◌, ◌/◌, nat_eq, nat_le, List, [], ◌∷◌, ◌++◌, Bool, false, ◌&&◌, Option, Some, None, filter, fold, map, if◌then◌else◌}
use Rattle.std.specs.List.{list_any, flat_map}
use Rattle.std.specs.Option.{option_map_or, option_and_then, unwrap_or}
use Rattle.mx_base.specs.declared.amounts.Base.{Base}
use Rattle.mx_base.specs.declared.amounts.Limit.{Limit}
use Rattle.mx_book.specs.commands.Act.{Act, Entry, Flown, Opened, Released, release_of}
use Rattle.mx_book.specs.commands.Same.{same_text, same_item}
use Rattle.mx_book.specs.declared.commands.item.Item.{Item}
use Rattle.mx_book.specs.declared.commands.opening.Opening.{Opening}
use Rattle.mx_book.specs.declared.commands.release.Line.{Line}
use Rattle.mx_book.specs.declared.commands.release.Line.TheVariants.{Done, Rectified}
use Rattle.mx_book.specs.declared.commands.release.Release.{Release}
use Rattle.mx_book.specs.declared.commands.sector.Sector.{Sector}
use Rattle.mx_book.specs.due.Due.{IsBase, due_after}
use Rattle.mx_book.specs.due.Moved.{lesser_of, moved, row_with}
use Rattle.mx_book.specs.Register.{birth}
use Rattle.mx_book.specs.Life.{life_now, minutes_flown, use_or_none}
use Rattle.mx_book.specs.Programme.{is_done}
use Rattle.mx_book.specs.Base.{Accomplishment, Stated, DoneIn, base_at, base_of, due_of, task_then, value_of}
use Rattle.mx_registers.specs.Names.{said_at}
use Rattle.mx_registers.specs.Registers.{next, no_limit}
use Rattle.mx_base.specs.declared.rows.rows.DoneRow.{DoneRow}
use Rattle.mx_registers.specs.kept.Bases.{stated_base, tasks_accomplished}
use Rattle.mx_registers.specs.kept.Becomes.{Change}
use Rattle.mx_registers.specs.kept.Changes.{due_at}
use Rattle.mx_registers.specs.kept.Items.{items, number_of_item}
use Rattle.mx_registers.specs.kept.Totals.{numbers_flown}

-- ── the accomplishments of a task of an item, each in its place ──

-- an accomplishment, the number of its entry, and of its line there, from 1, or 0 where it is an opening
pub record Placed : Type 0 where
  pub seq : ℕ
  pub line : ℕ
  pub what : Accomplishment

-- those that these lines of the release of an entry say, the first of them on this line
abbrev pub placed_lines : ℕ → ℕ → Item → List ℕ → Release → List Line → List Placed
placed_lines k line item id r [] = []
placed_lines k line item id r (said ∷ lines) = (if is_done item id said then record { seq = k; line = line; what = DoneIn k r } ∷ [] else []) ++ placed_lines k (line + 1) item id r lines

-- those that the entry with a number says
abbrev pub placed_by : ℕ → Item → List ℕ → Act → List Placed
placed_by k item id (Opened o) = if same_item o.item item then (if same_text o.task id then record { seq = k; line = 0; what = Stated o } ∷ [] else []) else []
placed_by k item id (Released r lines) = placed_lines k 1 item id r lines
placed_by k item id _ = []

-- those of some entries, which are numbered from k
abbrev pub placed_from : ℕ → Item → List ℕ → List Entry → List Placed
placed_from k item id [] = []
placed_from k item id (entry ∷ later) = placed_by k item id entry.act ++ placed_from (k + 1) item id later

-- those of a book, in the order of the entries and of their lines
abbrev pub placed : List Entry → Item → List ℕ → List Placed
placed book item id = placed_from 1 item id book

-- ── the rows ──

-- the limit, or none in any dimension
abbrev pub limit_or_none : Option Limit → Limit
limit_or_none limit = unwrap_or limit no_limit

-- when the task was due at an accomplishment, behind one with this base, if any: in no dimension where it was never due
abbrev pub due_limit : List Entry → Item → List ℕ → Option Base → Accomplishment → Limit
due_limit book item id before a = limit_or_none (due_of book item id before a)

-- the row of an accomplishment, behind one with this base, if any
abbrev pub done_row : List Entry → ℕ → Item → List ℕ → Option Base → Placed → DoneRow
done_row book number item id before p = record {
  item = number;
  task = id;
  seq = p.seq;
  line = p.line;
  value = value_of book item p.what;
  due = due_limit book item id before p.what;
  base = base_of book item id before p.what;
}

-- the rows of some accomplishments, behind one with this base, if any: each behind the one before it
abbrev pub done_chain : List Entry → ℕ → Item → List ℕ → Option Base → List Placed → List DoneRow
done_chain book number item id before [] = []
done_chain book number item id before (p ∷ more) = done_row book number item id before p ∷ done_chain book number item id (Some (base_of book item id before p.what)) more

-- the rows of a task of an item with its number
abbrev pub done_rows_of : List Entry → ℕ → Item → List ℕ → List DoneRow
done_rows_of book number item id = done_chain book number item id None (placed book item id)

-- the rows of an item with its number
abbrev pub done_rows_at : List Entry → ℕ × Item → List DoneRow
done_rows_at book numbered = flat_map (done_rows_of book numbered.0 numbered.1) (tasks_accomplished book numbered.1)

-- the accomplishments of a book, by items and tasks
abbrev pub done_rows : List Entry → List DoneRow
done_rows book = flat_map (done_rows_at book) (items book)

-- ── a sector that is entered late ──

-- the release that the entry with a number made
abbrev pub release_at : List Entry → ℕ → Option Release
release_at book seq = said_at (λ entry. release_of entry.act) book seq

-- the row is of a release that had been made when the sector had landed
abbrev pub is_behind : List Entry → Sector → DoneRow → Bool
is_behind book s row = option_map_or (λ r. nat_le s.on r.moment) (release_at book row.seq) false

-- the value, with the minutes and cycles of a sector
abbrev pub value_more : Sector → Base → Base
value_more s value = record { minutes = value.minutes + minutes_flown s; cycles = value.cycles + s.cycles; day = value.day }

-- the row, its value with a sector where its item is among some and the release was behind the landing
abbrev pub credited_late : List Entry → List ℕ → Sector → DoneRow → DoneRow
credited_late book numbers s row = if list_any (nat_eq row.item) numbers && is_behind book s row then record row { value = value_more s row.value } else row

-- ── the due and the base of each row anew ──

-- when the task of a row was due, behind one with this base, if any: by the task in force where the release was made, and never where the entry made none
abbrev pub due_anew : List Entry → Item → List ℕ → Option Base → DoneRow → Limit
due_anew book item id before row = limit_or_none (option_and_then (λ r. option_and_then (due_after before (birth book item)) (task_then book row.seq r id)) (release_at book row.seq))

-- rows of a task of an item, due and base of each anew behind the one before it
abbrev pub rebased : List Entry → Item → List ℕ → Option Base → List DoneRow → List DoneRow
rebased book item id before [] = []
rebased book item id before (row ∷ rows) =
    row_with row (due_anew book item id before row) ∷ rebased book item id (Some (lesser_of row.value (due_anew book item id before row))) rows

-- the row is of this task of the item with this number
abbrev pub is_done_of : ℕ → List ℕ → DoneRow → Bool
is_done_of number id row = nat_eq row.item number && same_text row.task id

-- the row with no due, and its value for a base: what a row says of its accomplishment alone
abbrev pub valued : DoneRow → DoneRow
valued row = row_with row no_limit

-- the base of the last of some rows, where there are any
abbrev pub last_base : List DoneRow → Option Base
last_base rows = fold (λ before row. Some row.base) None rows

-- ── one command ──

-- the row of a task that a new release certifies on a line of its entry: what the item has reached, and when the task is due by the programme in force at the place
abbrev pub row_done : List Entry → Release → ℕ → Item → List ℕ → ℕ → ℕ → DoneRow
row_done book r number item id seq line = record {
  item = number;
  task = id;
  seq = seq;
  line = line;
  value = base_at (use_or_none (life_now book item)) (r.moment / 1440);
  due = limit_or_none (due_at book r.place item id);
  base = lesser_of (base_at (use_or_none (life_now book item)) (r.moment / 1440)) (limit_or_none (due_at book r.place item id));
}

-- the row that a new opening states: its values, and never due
abbrev pub row_stated : List Entry → Opening → DoneRow
row_stated book o = record { item = number_of_item book o.item; task = o.task; seq = next book; line = 0; value = stated_base o; due = no_limit; base = stated_base o }

-- those of these lines of a new release, the first of them on this line: one for each task that is certified
abbrev pub rows_done : List Entry → Release → ℕ → List Line → List DoneRow
rows_done book r line [] = []
rows_done book r line (Done item task ∷ lines) = row_done book r (number_of_item book item) item task (next book) line ∷ rows_done book r (line + 1) lines
rows_done book r line (Rectified doc ∷ lines) = rows_done book r (line + 1) lines

-- the rows that a new command adds
abbrev pub done_by : List Entry → Act → List DoneRow
done_by book (Opened o) = row_stated book o ∷ []
done_by book (Released r lines) = rows_done book r 1 lines
done_by book _ = []

-- what the rows of a task of the item with a number among these become with a new sector: credited late, and due and base of each moved
abbrev pub late_rows_of : List Entry → Sector → List DoneRow → ℕ → List ℕ → List DoneRow
late_rows_of book s rows number id = moved None None (map (credited_late book (numbers_flown book s) s) (filter (is_done_of number id) rows))

-- those of all tasks of an item with its number
abbrev pub late_rows_at : List Entry → Sector → List DoneRow → ℕ × Item → List DoneRow
late_rows_at book s rows numbered = flat_map (late_rows_of book s rows numbered.0) (tasks_accomplished book numbered.1)

-- what rows become with a new command beside those that it adds: a sector may change values, and a command of another kind changes none
abbrev pub done_moved : List Entry → Act → List DoneRow → List DoneRow
done_moved book (Flown s) rows = flat_map (late_rows_at book s rows) (items book)
done_moved book _ rows = rows

-- the accomplishments with a command
abbrev pub done_become : Change DoneRow
done_become before command rows = done_moved before command.act rows ++ done_by before command.act

-- ── which rows there are ──

-- the row is of this task of the item with this number, on this line of the entry with this number
abbrev pub is_done_at : ℕ → List ℕ → ℕ → ℕ → DoneRow → Bool
is_done_at number id seq line row = is_done_of number id row && (nat_eq row.seq seq && nat_eq row.line line)

-- no two rows are of one task of one item on one line of one entry
abbrev pub AreDoneOnce : List DoneRow → Type 0
AreDoneOnce [] = ⊤
AreDoneOnce (row ∷ rows) = (list_any (is_done_at row.item row.task row.seq row.line) rows ≡ false) × AreDoneOnce rows

-- value and base of the row are within the life of an item and the calendar
pub record IsWithinLife (row : DoneRow) : Type 0 where
  pub value : IsBase row.value
  pub base : IsBase row.base
