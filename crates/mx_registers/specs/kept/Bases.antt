-- The last bases of a book as rows, and what one command makes of them.
-- A last base is of one task of one item, so its key is the number and the text, and no number alone (`base_key`). Rows
-- of distinct keys that say the same of each key are the same rows, in whatever order (`bases_are_a_map`).
use Rattle.std.specs.Prelude.{⊤, ◌≡◌, Bool, false, ℕ, ◌/◌, List, [], ◌∷◌, Option, Some, None, not, filter, find, if◌then◌else◌}
use Rattle.std.specs.List.{list_any, filter_map, flat_map}
use Rattle.std.specs.Option.{option_map}
use Rattle.mx_base.specs.declared.amounts.Base.{Base}
use Rattle.mx_book.specs.commands.Act.{Act, Entry, Opened, Released}
use Rattle.mx_book.specs.commands.Same.{same_text, same_item}
use Rattle.mx_book.specs.declared.commands.item.Item.{Item}
use Rattle.mx_book.specs.declared.commands.opening.Opening.{Opening}
use Rattle.mx_book.specs.declared.commands.release.Line.{Line}
use Rattle.mx_book.specs.declared.commands.release.Line.TheVariants.{Done, Rectified}
use Rattle.mx_book.specs.declared.commands.release.Release.{Release}
use Rattle.mx_book.specs.due.Due.{base_done}
use Rattle.mx_book.specs.Base.{base, base_at}
use Rattle.mx_book.specs.Life.{life_now, use_or_none}
use Rattle.mx_base.specs.rows.Rows.{base_key, base_in_row, base_row_with}
use Rattle.mx_base.specs.declared.rows.rows.BaseRow.{BaseRow}
use Rattle.mx_registers.specs.kept.Changes.{due_at}
use Rattle.mx_registers.specs.kept.Items.{items, number_of_item}

-- the task that a line certifies as done on an item
abbrev pub task_done : Item → Line → Option (List ℕ)
task_done item (Done done task) = if same_item done item then Some task else None
task_done item (Rectified doc) = None

-- the tasks of an item that an entry accomplishes
abbrev pub tasks_by : Item → Act → List (List ℕ)
tasks_by item (Opened o) = if same_item o.item item then o.task ∷ [] else []
tasks_by item (Released r lines) = filter_map (task_done item) lines
tasks_by item _ = []

-- the texts, each where it comes first
abbrev pub each_once : List (List ℕ) → List (List ℕ)
each_once [] = []
each_once (text ∷ texts) = text ∷ filter (λ other. not (same_text other text)) (each_once texts)

-- the tasks of an item that were accomplished, in the order of the first accomplishments
abbrev pub tasks_accomplished : List Entry → Item → List (List ℕ)
tasks_accomplished book item = each_once (flat_map (λ entry. tasks_by item entry.act) book)

-- the row of the last base of a task of an item with its number
abbrev pub base_row : List Entry → ℕ × Item → List ℕ → Option BaseRow
base_row book numbered id = option_map (λ b. base_row_with numbered.0 id b) (base book numbered.1 id)

-- the rows of an item with its number
abbrev pub base_rows_of : List Entry → ℕ × Item → List BaseRow
base_rows_of book numbered = filter_map (base_row book numbered) (tasks_accomplished book numbered.1)

-- the last bases of a book, in the order of the entries that added the items
abbrev pub base_rows : List Entry → List BaseRow
base_rows book = flat_map (base_rows_of book) (items book)

-- ── what rows say of each task ──

-- the row is of this task of the item with this number, by its key
abbrev pub is_keyed : ℕ → List ℕ → BaseRow → Bool
is_keyed number id row = same_text (base_key row) (number ∷ id)

-- the base in the row of a task of the item with a number, where there is such a row
abbrev pub base_in : List BaseRow → ℕ → List ℕ → Option Base
base_in rows number id = option_map base_in_row (find (is_keyed number id) rows)

-- no two rows are of one task of one item
abbrev pub AreKeyedOnce : List BaseRow → Type 0
AreKeyedOnce [] = ⊤
AreKeyedOnce (row ∷ rows) = (list_any (is_keyed row.item row.task) rows ≡ false) × AreKeyedOnce rows

-- ── one command ──

-- the row in place of that of the same task of the same item
abbrev pub base_put : BaseRow → List BaseRow → List BaseRow
base_put row rows = row ∷ filter (λ other. not (is_keyed row.item row.task other)) rows

-- rows, each in place of that of the same task of the same item, one after another
abbrev pub bases_put : List BaseRow → List BaseRow → List BaseRow
bases_put [] rows = rows
bases_put (row ∷ more) rows = bases_put more (base_put row rows)

-- the base of a task of an item that a release at a moment leaves, where a line certifies it: what the item has reached now, or in each dimension what was due where that is less
abbrev pub base_reached : List Entry → Release → Item → List ℕ → Base
base_reached book r item id = base_done (use_or_none (life_now book item)) (r.moment / 1440) (due_at book r.place item id)

-- the row of a task that a line of a release certifies as done
abbrev pub base_set : List Entry → Release → Line → Option BaseRow
base_set book r (Done item task) = Some (base_row_with (number_of_item book item) task (base_reached book r item task))
base_set book r (Rectified doc) = None

-- the base that an opening states
abbrev pub stated_base : Opening → Base
stated_base o = base_at o.use_then o.day

-- the row that an opening states
abbrev pub base_stated : List Entry → Opening → BaseRow
base_stated book o = base_row_with (number_of_item book o.item) o.task (stated_base o)

-- the rows that a command sets, in the order of its lines
abbrev pub bases_by : List Entry → Act → List BaseRow
bases_by book (Opened o) = base_stated book o ∷ []
bases_by book (Released r lines) = filter_map (base_set book r) lines
bases_by book _ = []
