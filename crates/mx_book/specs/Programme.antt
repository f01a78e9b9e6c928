-- The programme in force of a kind, what its tasks apply to, and what was accomplished of them.
use Rattle.std.specs.Prelude.{ℕ, ◌+◌, List, [], Bool, false, ◌&&◌, Option, Some, None, if◌then◌else◌, find, fold, is_some}
use Rattle.std.specs.List.{list_any}
use Rattle.std.specs.Option.{option_map, option_map_or, option_and_then}
use Rattle.mx_base.specs.declared.amounts.Use.{Use}
use Rattle.mx_book.specs.commands.Act.{Act, Entry, Loaded, Opened, Released}
use Rattle.mx_book.specs.commands.Same.{same_text, same_item}
use Rattle.mx_book.specs.declared.commands.item.Item.{Item}
use Rattle.mx_book.specs.declared.commands.programme.Applies.{Applies}
use Rattle.mx_book.specs.declared.commands.programme.Applies.TheVariants.{Airframe as ToAirframe, Part as ToPart}
use Rattle.mx_book.specs.declared.commands.programme.Task.{Task}
use Rattle.mx_book.specs.declared.commands.release.Line.{Line}
use Rattle.mx_book.specs.declared.commands.release.Line.TheVariants.{Done, Rectified}
use Rattle.mx_book.specs.declared.commands.release.Place.{Place}
use Rattle.mx_book.specs.declared.commands.release.Place.TheVariants.{Aircraft, Shop}
use Rattle.mx_book.specs.due.Due.{first_due}
use Rattle.mx_book.specs.due.Left.{left_of, is_used_up}
use Rattle.mx_book.specs.declared.found.Found.{Found}
use Rattle.mx_book.specs.declared.found.Found.TheVariants as founds
use Rattle.mx_book.specs.Register.{register, aircraft, birth, found_of}
use Rattle.mx_book.specs.Life.{life_now}

-- ── programmes ──

-- the last of a list
abbrev pub last_of : {X : Type 0} → List X → Option X
last_of xs = fold (λ before x. Some x) None xs

-- the tasks that an entry loads for a kind
abbrev pub tasks_loaded : List ℕ → Act → Option (List Task)
tasks_loaded kind (Loaded p tasks) = if same_text p.kind kind then Some tasks else None
tasks_loaded kind _ = None

-- the revision that an entry loads for a kind
abbrev pub revision_loaded : List ℕ → Act → Option ℕ
revision_loaded kind (Loaded p tasks) = if same_text p.kind kind then Some p.revision else None
revision_loaded kind _ = None

-- the tasks of the programme in force of a kind, which is the last that was loaded
abbrev pub tasks_in_force : List Entry → List ℕ → Option (List Task)
tasks_in_force book kind = last_of (register (tasks_loaded kind) book)

-- the same, none where it has no programme
abbrev pub tasks_or_none : List Entry → List ℕ → List Task
tasks_or_none book kind = option_map_or (λ tasks. tasks) (tasks_in_force book kind) []

-- the revision of the programme in force of a kind
abbrev pub revision_in_force : List Entry → List ℕ → Option ℕ
revision_in_force book kind = last_of (register (revision_loaded kind) book)

-- the revision that is loaded next for a kind: 1, or one more than that in force
abbrev pub next_revision : List Entry → List ℕ → ℕ
next_revision book kind = option_map_or (λ n. n + 1) (revision_in_force book kind) 1

-- the task with this name in the programme in force of a kind
abbrev pub task_in_force : List Entry → List ℕ → List ℕ → Option Task
task_in_force book kind id = option_and_then (find (λ t. same_text t.id id)) (tasks_in_force book kind)

-- what is done on every airframe is done on each that was found, and what is done on a part on each component of that part
abbrev pub is_done_in : Found → Applies → Bool
is_done_in (founds.Airframe found) ToAirframe = is_some found
is_done_in (founds.Component found) (ToPart part) = option_map_or (λ c. same_text c.part part) found false
is_done_in _ _ = false

-- the task applies to the item
abbrev pub applies_to : List Entry → Item → Task → Bool
applies_to book item t = is_done_in (found_of book item) t.applies

-- ── by which programme work is done ──

-- the kind whose programme work at a place is done by: that of the aircraft, or the one that the shop names
abbrev pub kind_at : List Entry → Place → Option (List ℕ)
kind_at book (Aircraft tail) = option_map (λ a. a.kind) (aircraft book tail)
kind_at book (Shop serial kind) = Some kind

-- the tasks of the programme in force at a place
abbrev pub tasks_at : List Entry → Place → Option (List Task)
tasks_at book place = option_and_then (tasks_in_force book) (kind_at book place)

-- the task with this name in the programme in force at a place
abbrev pub task_at : List Entry → Place → List ℕ → Option Task
task_at book place id = option_and_then (find (λ t. same_text t.id id)) (tasks_at book place)

-- ── what was accomplished ──

-- the line certifies that the task was done on the item
abbrev pub is_done : Item → List ℕ → Line → Bool
is_done item id (Done done task) = same_item done item && same_text task id
is_done item id (Rectified doc) = false

-- the entry accomplishes the task of the item: an opening says that it was done before, a release has it among its lines
abbrev pub accomplishes : Item → List ℕ → Act → Bool
accomplishes item id (Opened o) = same_item o.item item && same_text o.task id
accomplishes item id (Released r lines) = list_any (is_done item id) lines
accomplishes item id _ = false

-- the task of the item was accomplished
abbrev pub is_accomplished : List Entry → Item → List ℕ → Bool
is_accomplished book item id = list_any (λ entry. accomplishes item id entry.act) book

-- ── the end of a life ──

-- the task retires the item, and with this life and on this day nothing is left until then in some dimension
abbrev pub is_at_end : List Entry → Item → Use → ℕ → Task → Bool
is_at_end book item life day t = t.retire && (applies_to book item t && is_used_up (left_of (first_due (birth book item) t) life day))

-- with this life a task in force of a kind retires the item by this day
abbrev pub is_ended_by : List Entry → List ℕ → Item → ℕ → Use → Bool
is_ended_by book kind item day life = option_map_or (list_any (is_at_end book item life day)) (tasks_in_force book kind) false

-- a task in force of a kind retires the item by this day, with the life that it has now
abbrev pub life_ended : List Entry → List ℕ → Item → ℕ → Bool
life_ended book kind item day = option_map_or (is_ended_by book kind item day) (life_now book item) false
