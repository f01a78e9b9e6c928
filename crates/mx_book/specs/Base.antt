-- The base that the next due of a task is counted from, by what was accomplished.
use Rattle.std.specs.Prelude.{ℕ, ◌+◌, ◌/◌, List, [], ◌∷◌, ◌++◌, Option, Some, None, if◌then◌else◌, filter, fold, map, take}
use Rattle.std.specs.Option.{option_and_then, option_map_or}
use Rattle.mx_base.specs.declared.amounts.Base.{Base}
use Rattle.mx_base.specs.declared.amounts.Limit.{Limit}
use Rattle.mx_base.specs.declared.amounts.Use.{Use}
use Rattle.mx_book.specs.commands.Act.{Act, Entry, Opened, Released}
use Rattle.mx_book.specs.commands.Same.{same_text, same_item}
use Rattle.mx_book.specs.declared.commands.item.Item.{Item}
use Rattle.mx_book.specs.declared.commands.opening.Opening.{Opening}
use Rattle.mx_book.specs.declared.commands.programme.Task.{Task}
use Rattle.mx_book.specs.declared.commands.release.Release.{Release}
use Rattle.mx_book.specs.due.Due.{due_after, lesser}
use Rattle.mx_book.specs.Register.{birth}
use Rattle.mx_book.specs.Life.{life_at, use_or_none}
use Rattle.mx_book.specs.Programme.{task_in_force, kind_at, is_done}

-- an accomplishment of a task of an item: stated by an opening, or done in a release, which is the entry with a number
pub data Accomplishment : Type 0 where
  Stated : Opening → Accomplishment
  DoneIn : ℕ → Release → Accomplishment

-- the accomplishments of a task of an item that the entry with a number says: the opening, or each line that certifies it
abbrev pub accomplished_by : ℕ → Item → List ℕ → Act → List Accomplishment
accomplished_by k item id (Opened o) = if same_item o.item item then (if same_text o.task id then Stated o ∷ [] else []) else []
accomplished_by k item id (Released r lines) = map (λ line. DoneIn k r) (filter (is_done item id) lines)
accomplished_by k item id _ = []

-- the accomplishments of a task of an item, where the entries are numbered from k
abbrev pub accomplished_from : ℕ → Item → List ℕ → List Entry → List Accomplishment
accomplished_from k item id [] = []
accomplished_from k item id (entry ∷ later) = accomplished_by k item id entry.act ++ accomplished_from (k + 1) item id later

-- the accomplishments of a task of an item, in the order of the entries and of their lines
abbrev pub accomplishments : List Entry → Item → List ℕ → List Accomplishment
accomplishments book item id = accomplished_from 1 item id book

-- the task with this name that was in force where a release was made, by the programmes that were loaded among the first k entries
abbrev pub task_then : List Entry → ℕ → Release → List ℕ → Option Task
task_then book k r id = option_and_then (λ kind. task_in_force (take k book) kind id) (kind_at book r.place)

-- a use and a day as a base
abbrev pub base_at : Use → ℕ → Base
base_at life day = record { minutes = life.minutes; cycles = life.cycles; day = day }

-- the value of an accomplishment: what an opening states, or what the item had reached at the moment of the release
abbrev pub value_of : List Entry → Item → Accomplishment → Base
value_of book item (Stated o) = base_at o.use_then o.day
value_of book item (DoneIn k r) = base_at (use_or_none (life_at book item r.moment)) (r.moment / 1440)

-- when the task was due at an accomplishment, where it was, behind one with this base, if any: at an opening never
abbrev pub due_of : List Entry → Item → List ℕ → Option Base → Accomplishment → Option Limit
due_of book item id before (Stated o) = None
due_of book item id before (DoneIn k r) = option_and_then (due_after before (birth book item)) (task_then book k r id)

-- a value, or what was due in the dimensions in which that is less
abbrev pub lesser_base : Base → Option Limit → Base
lesser_base value due =
    option_map_or (λ limit. record { minutes = lesser value.minutes limit.minutes; cycles = lesser value.cycles limit.cycles; day = lesser value.day limit.days }) due value

-- the base of an accomplishment, behind one with this base, if any: its value, or what was due then where that is less
abbrev pub base_of : List Entry → Item → List ℕ → Option Base → Accomplishment → Base
base_of book item id before a = lesser_base (value_of book item a) (due_of book item id before a)

-- the base of the last of some accomplishments, behind one with this base, if any
abbrev pub base_from : List Entry → Item → List ℕ → Option Base → List Accomplishment → Option Base
base_from book item id before more = fold (λ b a. Some (base_of book item id b a)) before more

-- the base of the last accomplishment of a task of an item
abbrev pub base : List Entry → Item → List ℕ → Option Base
base book item id = base_from book item id None (accomplishments book item id)
