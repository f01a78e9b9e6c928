-- What was accomplished and what was rectified, in maps, and what an entry adds to that.
use Rattle.std.specs.Prelude.{◌≡◌, ℕ, List, [], ◌∷◌, Bool, true, false, Option, Some, None}
use Rattle.std.specs.List.{filter_map}
use Rattle.std.specs.Option.{option_map}
use Rattle.std.specs.Ordering.{nat_cmp}
use Rattle.std.specs.Cmp.Lexicographic.{slice_cmp}
use Rattle.mx_book.specs.commands.Act.{Act, Entry, Opened, Released, lines_of}
use Rattle.mx_book.specs.declared.commands.item.Item.{Item}
use Rattle.mx_book.specs.declared.commands.item.Item.TheVariants.{Airframe, Component}
use Rattle.mx_book.specs.declared.commands.release.Line.{Line}
use Rattle.mx_book.specs.declared.commands.release.Line.TheVariants.{Done, Rectified}
use Rattle.mx_book.specs.Defect.{is_rectified}
use Rattle.mx_book.specs.Programme.{is_accomplished}
use Rattle.mx_indexed_book.specs.maps.Maps.{HasRoomForAll, IsIndex}
use Rattle.mx_indexed_book.specs.maps.Places.{names_cmp}
use Rattle.mx_indexed_book.specs.declared.maps.work.Work.{Work}
use Rattle.mx_indexed_book.specs.declared.maps.work.WorkChanges.{WorkChanges}

-- the airframe and the task, where the item is an airframe
abbrev pub airframe_task : Item → List ℕ → Option (List ℕ × List ℕ)
airframe_task (Airframe tail) id = Some (tail, id)
airframe_task (Component serial) id = None

-- the component and the task, where the item is a component
abbrev pub component_task : Item → List ℕ → Option (List ℕ × List ℕ)
component_task (Airframe tail) id = None
component_task (Component serial) id = Some (serial, id)

-- the task of an item that a line of a release certifies
abbrev pub line_task : Line → Option (Item × List ℕ)
line_task (Done item id) = Some (item, id)
line_task (Rectified doc) = None

-- the tasks that an entry accomplishes, each of an item, in the order of its lines
abbrev pub tasks_done : Act → List (Item × List ℕ)
tasks_done (Opened o) = (o.item, o.task) ∷ []
tasks_done (Released r lines) = filter_map line_task lines
tasks_done _ = []

-- a task that is accomplished at its key, if it has one
abbrev pub keyed : (Item → List ℕ → Option (List ℕ × List ℕ)) → Item × List ℕ → Option ((List ℕ × List ℕ) × Bool)
keyed task done = option_map (λ key. (key, true)) (task done.0 done.1)

-- the defect that a line certifies to be rectified
abbrev pub line_defect : Line → Option (List ℕ × Bool)
line_defect (Done item id) = None
line_defect (Rectified doc) = Some (doc, true)

-- what an entry changes: the tasks that it accomplishes, and the defects that it certifies to be rectified
pub record IsWorkChanged (entry : Entry) (changes : WorkChanges) : Type 0 where
  pub airframes_are : changes.airframes.items ≡ filter_map (keyed airframe_task) (tasks_done entry.act)
  pub components_are : changes.components.items ≡ filter_map (keyed component_task) (tasks_done entry.act)
  pub rectified_are : changes.rectified.items ≡ filter_map line_defect (lines_of entry.act)

-- a task of an airframe, or of a component, was accomplished
abbrev pub airframe_done : List Entry → List ℕ × List ℕ → Bool
airframe_done book named = is_accomplished book (Airframe named.0) named.1

abbrev pub component_done : List Entry → List ℕ × List ℕ → Bool
component_done book named = is_accomplished book (Component named.0) named.1

-- the maps have which tasks were accomplished, and what was rectified
pub record IsWork (book : List Entry) (maps : Work) : Type 0 where
  pub airframes_are : IsIndex names_cmp false (airframe_done book) maps.airframes
  pub components_are : IsIndex names_cmp false (component_done book) maps.components
  pub rectified_are : IsIndex (slice_cmp nat_cmp) false (is_rectified book) maps.rectified

-- each map has room for its changes
pub record WorkHasRoom (changes : WorkChanges) (maps : Work) : Type 0 where
  pub for_airframes : HasRoomForAll names_cmp changes.airframes.items maps.airframes
  pub for_components : HasRoomForAll names_cmp changes.components.items maps.components
  pub for_rectified : HasRoomForAll (slice_cmp nat_cmp) changes.rectified.items maps.rectified
