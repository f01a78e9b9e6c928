-- The form of a release to service: its keys, its place and its lines, and how their values are read.
use Rattle.std.specs.Prelude.{ℕ, List, [], ◌∷◌, codes, Bool, not, ◌&&◌, ◌||◌, Option, Some, None, is_some, option_map, option_and_then, Result, if◌then◌else◌}
use Rattle.serde_json.specs.Data.{Data, Items}
use Rattle.serde_json.specs.Find.{get, as_object}
use Rattle.mx_book.specs.commands.Act.{Entry, Released}
use Rattle.mx_book.specs.declared.commands.release.Line.{Line}
use Rattle.mx_book.specs.declared.commands.release.Line.TheVariants.{Done, Rectified}
use Rattle.mx_book.specs.declared.commands.release.Place.{Place}
use Rattle.mx_book.specs.declared.commands.release.Place.TheVariants.{Aircraft, Shop}
use Rattle.mx_intake.specs.Form.{if_read, if_keys_agree, entry_by_form}
use Rattle.mx_intake.specs.Items.{names_airframe, names_component, lacks_item, names_two_items, item_at_keys}
use Rattle.mx_intake.specs.Object.{lacks_key, has_other_key, list_at_key, any_at_key, stated_all}
use Rattle.mx_intake.specs.Vocabulary.{tail_at_key, name_at_key, document_at_key, moment_at_key}

-- ── where the work was done ──

-- the keys of a component in a shop
abbrev pub shop_keys : List (List ℕ)
shop_keys = codes "serial" ∷ codes "kind" ∷ []

-- neither an aircraft is named, nor a component in a shop and the kind by whose programme it is maintained
abbrev pub lacks_place : Data → Bool
lacks_place d = not (names_airframe d) && lacks_key shop_keys d

-- beside an aircraft stands a key of a component in a shop
abbrev pub names_two_places : Data → Bool
names_two_places d = names_airframe d && (names_component d || is_some (get (codes "kind") d))

-- a key is absent, or its name can be read
abbrev pub is_name_if_there : List ℕ → Data → Bool
is_name_if_there key d = not (is_some (get key d)) || is_some (name_at_key key d)

-- the keys of a component in a shop, as far as they are there, can be read
abbrev pub is_shop_readable : Data → Bool
is_shop_readable d = is_name_if_there (codes "serial") d && is_name_if_there (codes "kind") d

-- the aircraft that is named, where all that stands beside it can be read
abbrev pub aircraft_at_key : Data → Option Place
aircraft_at_key d = if is_shop_readable d then option_map Aircraft (tail_at_key (codes "tail") d) else None

-- the component in a shop, by the programme of the kind
abbrev pub shop_at_keys : Data → Option Place
shop_at_keys d =
    if_read (name_at_key (codes "serial") d) (λ serial.
    if_read (name_at_key (codes "kind") d) (λ kind.
    Some (Shop serial kind)))

-- the place that is named
abbrev pub place_at_keys : Data → Option Place
place_at_keys d = if names_airframe d then aircraft_at_key d else shop_at_keys d

-- ── its lines ──

-- the keys of a line
abbrev pub line_keys : List (List ℕ)
line_keys = codes "task" ∷ codes "tail" ∷ codes "serial" ∷ codes "defect" ∷ []

-- a line names a defect
abbrev pub names_defect : Data → Bool
names_defect d = is_some (get (codes "defect") d)

-- a line names a task
abbrev pub names_task : Data → Bool
names_task d = is_some (get (codes "task") d)

-- a line that is an object lacks a key: it names no defect, and lacks a task or an item
abbrev pub lacks_line_key : Data → Bool
lacks_line_key d = is_some (as_object d) && (not (names_defect d) && (not (names_task d) || lacks_item d))

-- beside a defect stands a key of a task that was done
abbrev pub names_defect_and_task : Data → Bool
names_defect_and_task d = names_defect d && (names_task d || not (lacks_item d))

-- two keys of a line exclude each other
abbrev pub line_keys_exclude : Data → Bool
line_keys_exclude d = names_two_items d || names_defect_and_task d

-- the test holds of one of the lines
abbrev pub any_line : (Data → Bool) → Data → Bool
any_line = any_at_key (codes "lines")

-- the keys of a task that was done, as far as they are there, can be read
abbrev pub is_task_readable : Data → Bool
is_task_readable d = (lacks_item d || is_some (item_at_keys d)) && is_name_if_there (codes "task") d

-- the defect that was rectified, where all that stands beside it can be read
abbrev pub defect_at_key : Data → Option Line
defect_at_key d = if is_task_readable d then option_map Rectified (document_at_key (codes "defect") d) else None

-- the task that was done on an item
abbrev pub task_at_keys : Data → Option Line
task_at_keys d =
    if_read (item_at_keys d) (λ item.
    if_read (name_at_key (codes "task") d) (λ task.
    Some (Done item task)))

-- what a line states: the defect that was rectified, or the task that was done
abbrev pub stated_line : Data → Option Line
stated_line d = if names_defect d then defect_at_key d else task_at_keys d

-- the lines, where each can be read
abbrev pub stated_lines : Items → Option (List Line)
stated_lines = stated_all stated_line

-- the lines at their key, where each can be read
abbrev pub lines_at_key : Data → Option (List Line)
lines_at_key d = option_and_then stated_lines (list_at_key (codes "lines") d)

-- ── the release ──

-- the keys that a release needs beside those of its place
abbrev pub needed_release_keys : List (List ℕ)
needed_release_keys = codes "do" ∷ codes "doc" ∷ codes "moment" ∷ codes "lines" ∷ []

-- the keys of a release
abbrev pub release_keys : List (List ℕ)
release_keys =
    codes "do" ∷ codes "doc" ∷ codes "tail" ∷ codes "serial" ∷ codes "kind" ∷ codes "moment" ∷ codes "lines" ∷ []

-- a key of the release is missing, or one of a line
abbrev pub lacks_release_key : Data → Bool
lacks_release_key d = lacks_key needed_release_keys d || (lacks_place d || any_line lacks_line_key d)

-- the release, or a line, has a key that its form does not have
abbrev pub has_other_release_key : Data → Bool
has_other_release_key d = has_other_key release_keys d || any_line (has_other_key line_keys) d

-- two keys of the release exclude each other, or two of a line
abbrev pub release_keys_exclude : Data → Bool
release_keys_exclude d = names_two_places d || any_line line_keys_exclude d

-- the release of these lines that an object states
abbrev pub stated_release_with : Data → List Line → Option Entry
stated_release_with d lines =
    if_read (document_at_key (codes "doc") d) (λ doc.
    if_read (place_at_keys d) (λ place.
    if_read (moment_at_key (codes "moment") d) (λ moment.
    Some (record { doc = doc; act = Released (record { place = place; moment = moment }) lines }))))

-- the release that an object states, with its lines
abbrev pub stated_release : Data → Option Entry
stated_release d = if_read (lines_at_key d) (stated_release_with d)

-- the command that an object gives by the form of a release
abbrev pub release_form : Data → Result Entry ℕ
release_form d =
    if_keys_agree (release_keys_exclude d) (entry_by_form (lacks_release_key d) (stated_release d) (has_other_release_key d))
