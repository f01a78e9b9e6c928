-- The accomplishments of a book as it is walked, each with what its value, its due and its base are made of behind the whole book.
use Rattle.std.specs.Prelude.{◌≡◌, ℕ, ◌+◌, ◌/◌, nat_eq, ◌&&◌, true, Bool, List, [], ◌∷◌, Option, Some, None, IfSome, filter}
use Rattle.std.specs.BTreeMap.{BTreeMap, get}
use Rattle.std.specs.Option.{option_and_then}
use Rattle.std.specs.Ordering.{nat_cmp, ordering_then}
use Rattle.std.specs.Cmp.Lexicographic.{slice_cmp}
use Rattle.std.specs.List.{AllByRecursion}
use Rattle.std.specs.declared.cmp.Ordering.{Ordering}
use Rattle.mx_base.specs.declared.amounts.Base.{Base}
use Rattle.mx_base.specs.declared.amounts.Limit.{Limit}
use Rattle.mx_base.specs.declared.rows.rows.DoneRow.{DoneRow}
use Rattle.mx_book.specs.commands.Act.{Act, Entry, Opened, Released}
use Rattle.mx_book.specs.commands.Programme.{task_shape}
use Rattle.mx_book.specs.commands.Same.{same_text}
use Rattle.mx_book.specs.declared.commands.item.Item.{Item}
use Rattle.mx_book.specs.declared.commands.release.Line.{Line}
use Rattle.mx_book.specs.declared.commands.release.Line.TheVariants.{Done, Rectified}
use Rattle.mx_book.specs.declared.commands.release.Release.{Release}
use Rattle.mx_book.specs.due.Due.{IsBase, due_after}
use Rattle.mx_book.specs.Base.{base_at, lesser_base}
use Rattle.mx_book.specs.Life.{life_at, use_or_none}
use Rattle.mx_book.specs.Programme.{task_at}
use Rattle.mx_book.specs.Register.{birth}
use Rattle.mx_registers.specs.Names.{item_at}
use Rattle.mx_registers.specs.Registers.{gives_by, next}
use Rattle.mx_registers.specs.kept.Bases.{stated_base}
use Rattle.mx_registers.specs.kept.Items.{number_of_item}
use Rattle.mx_registers.specs.late.Done.{is_done_of, last_base, limit_or_none}
use Rattle.mx_indexed_book.specs.declared.moments.done.Accomplished.{Accomplished}
use Rattle.mx_indexed_book.specs.declared.moments.done.Said.{Said}
use Rattle.mx_indexed_book.specs.declared.moments.done.Said.TheVariants.{ByOpening, ByRelease}

-- ── what entries say ──

-- the tasks that these lines of a new release certify, the first of them on this line: each with the task of that name in the programme in force at the place
abbrev pub certified : List Entry → Release → ℕ → List Line → List Accomplished
certified before r line [] = []
certified before r line (Done item task ∷ lines) = record { item = number_of_item before item; task = task; seq = next before; line = line; said = ByRelease r.moment (task_at before r.place task) } ∷ certified before r (line + 1) lines
certified before r line (Rectified doc ∷ lines) = certified before r (line + 1) lines

-- what an entry accomplishes, behind the entries before it
abbrev pub accomplished_by : List Entry → Act → List Accomplished
accomplished_by before (Opened o) = record { item = number_of_item before o.item; task = o.task; seq = next before; line = 0; said = ByOpening (stated_base o) } ∷ []
accomplished_by before (Released r lines) = certified before r 1 lines
accomplished_by before _ = []

-- what the entries of a book accomplish, in their order
abbrev pub accomplished : List Entry → List Accomplished
accomplished book = gives_by accomplished_by [] book

-- it is of this task of the item with this number
abbrev pub is_said_of : ℕ → List ℕ → Accomplished → Bool
is_said_of number id a = nat_eq a.item number && same_text a.task id

-- a base that an item may have is stated, and a task of its shape certified
abbrev pub IsSayable : Said → Type 0
IsSayable (ByOpening base) = IsBase base
IsSayable (ByRelease moment task) = IfSome task (λ t. task_shape t ≡ true)

-- ── the rows ──

-- the value: what is stated, or what the item had reached at the moment
abbrev pub value_said : List Entry → Item → Said → Base
value_said book item (ByOpening base) = base
value_said book item (ByRelease moment task) = base_at (use_or_none (life_at book item moment)) (moment / 1440)

-- when the task was due then, behind an accomplishment with this base, if any: never where it is stated
abbrev pub due_said : List Entry → Item → Option Base → Said → Option Limit
due_said book item before (ByOpening base) = None
due_said book item before (ByRelease moment task) = option_and_then (due_after before (birth book item)) task

-- the base that this leaves
abbrev pub base_said : List Entry → Item → Option Base → Said → Base
base_said book item before said = lesser_base (value_said book item said) (due_said book item before said)

-- the row
abbrev pub said_row : List Entry → Item → Option Base → Accomplished → DoneRow
said_row book item before a = record {
  item = a.item;
  task = a.task;
  seq = a.seq;
  line = a.line;
  value = value_said book item a.said;
  due = limit_or_none (due_said book item before a.said);
  base = base_said book item before a.said;
}

-- the rows of accomplishments of a task, behind one with this base, if any: each behind the one before it
abbrev pub said_chain : List Entry → Item → Option Base → List Accomplished → List DoneRow
said_chain book item before [] = []
said_chain book item before (a ∷ more) = said_row book item before a ∷ said_chain book item (Some (base_said book item before a.said)) more

-- ── as far as the book was walked ──

-- the order of tasks: by the number of the item, and then by the name
abbrev pub task_cmp : ℕ × List ℕ → ℕ × List ℕ → Ordering
task_cmp a b = ordering_then (nat_cmp a.0 b.0) (slice_cmp nat_cmp a.1 b.1)

-- of each task of an item these are the rows of what was said so far, of other numbers there are none, and a map has the last base of each
pub record AreDone (book : List Entry) (said : List Accomplished) (rows : List DoneRow) (bases : BTreeMap (ℕ × List ℕ) Base) : Type 0 where
  pub rows_are : (number : ℕ) (item : Item) (id : List ℕ) → item_at book number ≡ Some item → filter (is_done_of number id) rows ≡ said_chain book item None (filter (is_said_of number id) said)
  pub no_others : (number : ℕ) (id : List ℕ) → item_at book number ≡ None → filter (is_done_of number id) rows ≡ []
  pub bases_are : (number : ℕ) (id : List ℕ) → get task_cmp bases (number, id) ≡ last_base (filter (is_done_of number id) rows)
  pub bounded : AllByRecursion (λ (row : DoneRow). IsBase row.base) rows
