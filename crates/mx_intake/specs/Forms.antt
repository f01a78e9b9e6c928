-- The form of each command, that of releases aside: its keys, and how their values are read; and the form that a word chooses.
use Rattle.std.specs.Prelude.{ℕ, List, [], ◌∷◌, codes, Bool, ◌&&◌, ◌||◌, Option, Some, None, is_some, option_map, option_and_then, Result, Err, if◌then◌else◌}
use Rattle.std.specs.Str.{bytes_eq}
use Rattle.serde_json.specs.Data.{Data, Items}
use Rattle.serde_json.specs.Find.{get, as_str, as_object}
use Rattle.mx_base.specs.declared.amounts.Use.{Use}
use Rattle.mx_book.specs.commands.Act.{Entry, Added, Listed, Opened, Flown, Fitted, Removed, Deferred, Extended}
use Rattle.mx_book.specs.commands.Shape.{sector_doc}
use Rattle.mx_book.specs.declared.commands.sector.Sector.{Sector}
use Rattle.mx_intake.specs.declared.fault.TheConstants.{MISSING, BAD_VALUE}
use Rattle.mx_intake.specs.Category.{lacks_days, states_other_days, stated_category}
use Rattle.mx_intake.specs.Form.{if_read, if_keys_agree, entry_by_form}
use Rattle.mx_intake.specs.Items.{item_at_keys, lacks_item, names_two_items}
use Rattle.mx_intake.specs.Object.{lacks_key, has_other_key, number_at_key, list_at_key, any_at_key, stated_all}
use Rattle.mx_intake.specs.Release.{release_form}
use Rattle.mx_intake.specs.Vocabulary.{tail_at_key, name_at_key, document_at_key, day_at_key, moment_at_key}

-- ── add-aircraft ──

-- the keys of an aircraft
abbrev pub aircraft_keys : List (List ℕ)
aircraft_keys =
    codes "do" ∷ codes "doc" ∷ codes "tail" ∷ codes "kind" ∷ codes "birth" ∷ codes "minutes" ∷ codes "cycles"
    ∷ codes "as_of" ∷ codes "positions" ∷ []

-- the keys of a position
abbrev pub position_keys : List (List ℕ)
position_keys = codes "position" ∷ codes "part" ∷ []

-- a position that is an object lacks a key
abbrev pub lacks_position_key : Data → Bool
lacks_position_key d = is_some (as_object d) && lacks_key position_keys d

-- the test holds of one of the positions
abbrev pub any_position : (Data → Bool) → Data → Bool
any_position = any_at_key (codes "positions")

-- the position that an object states, and the part that it takes
abbrev pub stated_position : Data → Option (List ℕ × List ℕ)
stated_position d =
    if_read (name_at_key (codes "position") d) (λ position.
    if_read (name_at_key (codes "part") d) (λ part.
    Some (position, part)))

-- the positions, where each can be read
abbrev pub stated_positions : Items → Option (List (List ℕ × List ℕ))
stated_positions = stated_all stated_position

-- the use that an opening states
abbrev pub stated_use : Data → Option Use
stated_use d =
    if_read (number_at_key (codes "minutes") d) (λ minutes.
    if_read (number_at_key (codes "cycles") d) (λ cycles.
    Some (record { minutes = minutes; cycles = cycles })))

-- the positions at their key, where each can be read
abbrev pub positions_at_key : Data → Option (List (List ℕ × List ℕ))
positions_at_key d = option_and_then stated_positions (list_at_key (codes "positions") d)

-- the aircraft of these positions that an object states
abbrev pub stated_aircraft_with : Data → List (List ℕ × List ℕ) → Option Entry
stated_aircraft_with d positions =
    if_read (document_at_key (codes "doc") d) (λ doc.
    if_read (tail_at_key (codes "tail") d) (λ tail.
    if_read (name_at_key (codes "kind") d) (λ kind.
    if_read (day_at_key (codes "birth") d) (λ birth.
    if_read (stated_use d) (λ opening.
    if_read (moment_at_key (codes "as_of") d) (λ as_of.
    Some (record { doc = doc; act = Added (record { tail = tail; kind = kind; birth = birth; opening = opening; as_of = as_of }) positions })))))))

-- the aircraft that an object states, with its positions
abbrev pub stated_aircraft : Data → Option Entry
stated_aircraft d = if_read (positions_at_key d) (stated_aircraft_with d)

-- the command that an object gives by the form of an aircraft
abbrev pub aircraft_form : Data → Result Entry ℕ
aircraft_form d =
    entry_by_form (lacks_key aircraft_keys d || any_position lacks_position_key d) (stated_aircraft d)
    (has_other_key aircraft_keys d || any_position (has_other_key position_keys) d)

-- ── add-component ──

-- the keys of a component
abbrev pub component_keys : List (List ℕ)
component_keys =
    codes "do" ∷ codes "doc" ∷ codes "serial" ∷ codes "part" ∷ codes "birth" ∷ codes "minutes" ∷ codes "cycles"
    ∷ codes "as_of" ∷ []

-- the component that an object states
abbrev pub stated_component : Data → Option Entry
stated_component d =
    if_read (document_at_key (codes "doc") d) (λ doc.
    if_read (name_at_key (codes "serial") d) (λ serial.
    if_read (name_at_key (codes "part") d) (λ part.
    if_read (day_at_key (codes "birth") d) (λ birth.
    if_read (stated_use d) (λ opening.
    if_read (moment_at_key (codes "as_of") d) (λ as_of.
    Some (record { doc = doc; act = Listed (record { serial = serial; part = part; birth = birth; opening = opening; as_of = as_of }) })))))))

-- the command that an object gives by the form of a component
abbrev pub component_form : Data → Result Entry ℕ
component_form d = entry_by_form (lacks_key component_keys d) (stated_component d) (has_other_key component_keys d)

-- ── opening ──

-- the keys that an opening needs beside that of its item
abbrev pub needed_opening_keys : List (List ℕ)
needed_opening_keys =
    codes "do" ∷ codes "doc" ∷ codes "kind" ∷ codes "task" ∷ codes "minutes" ∷ codes "cycles" ∷ codes "day" ∷ []

-- the keys of an opening
abbrev pub opening_keys : List (List ℕ)
opening_keys =
    codes "do" ∷ codes "doc" ∷ codes "tail" ∷ codes "serial" ∷ codes "kind" ∷ codes "task" ∷ codes "minutes" ∷ codes "cycles"
    ∷ codes "day" ∷ []

-- the opening that an object states
abbrev pub stated_opening : Data → Option Entry
stated_opening d =
    if_read (document_at_key (codes "doc") d) (λ doc.
    if_read (item_at_keys d) (λ item.
    if_read (name_at_key (codes "kind") d) (λ kind.
    if_read (name_at_key (codes "task") d) (λ task.
    if_read (stated_use d) (λ use_then.
    if_read (day_at_key (codes "day") d) (λ day.
    Some (record { doc = doc; act = Opened (record { item = item; kind = kind; task = task; use_then = use_then; day = day }) })))))))

-- the command that an object gives by the form of an opening
abbrev pub opening_form : Data → Result Entry ℕ
opening_form d =
    if_keys_agree (names_two_items d)
    (entry_by_form (lacks_key needed_opening_keys d || lacks_item d) (stated_opening d) (has_other_key opening_keys d))

-- ── sector ──

-- the keys of a sector
abbrev pub sector_keys : List (List ℕ)
sector_keys =
    codes "do" ∷ codes "tail" ∷ codes "page" ∷ codes "line" ∷ codes "off" ∷ codes "on" ∷ codes "cycles" ∷ []

-- the sector that an object states
abbrev pub stated_sector : Data → Option Sector
stated_sector d =
    if_read (tail_at_key (codes "tail") d) (λ tail.
    if_read (number_at_key (codes "page") d) (λ page.
    if_read (number_at_key (codes "line") d) (λ line.
    if_read (moment_at_key (codes "off") d) (λ off.
    if_read (moment_at_key (codes "on") d) (λ on.
    if_read (number_at_key (codes "cycles") d) (λ cycles.
    Some (record { tail = tail; page = page; line = line; off = off; on = on; cycles = cycles })))))))

-- a sector by its own document
abbrev pub logged : Sector → Entry
logged s = record { doc = sector_doc s; act = Flown s }

-- the command that an object gives by the form of a sector
abbrev pub sector_form : Data → Result Entry ℕ
sector_form d = entry_by_form (lacks_key sector_keys d) (option_map logged (stated_sector d)) (has_other_key sector_keys d)

-- ── fit ──

-- the keys of a fitting
abbrev pub fitting_keys : List (List ℕ)
fitting_keys =
    codes "do" ∷ codes "doc" ∷ codes "serial" ∷ codes "tail" ∷ codes "position" ∷ codes "moment" ∷ []

-- the fitting that an object states
abbrev pub stated_fitting : Data → Option Entry
stated_fitting d =
    if_read (document_at_key (codes "doc") d) (λ doc.
    if_read (name_at_key (codes "serial") d) (λ serial.
    if_read (tail_at_key (codes "tail") d) (λ tail.
    if_read (name_at_key (codes "position") d) (λ position.
    if_read (moment_at_key (codes "moment") d) (λ moment.
    Some (record { doc = doc; act = Fitted (record { serial = serial; tail = tail; position = position; moment = moment }) }))))))

-- the command that an object gives by the form of a fitting
abbrev pub fitting_form : Data → Result Entry ℕ
fitting_form d = entry_by_form (lacks_key fitting_keys d) (stated_fitting d) (has_other_key fitting_keys d)

-- ── remove ──

-- the keys of a removal
abbrev pub removal_keys : List (List ℕ)
removal_keys = codes "do" ∷ codes "doc" ∷ codes "serial" ∷ codes "moment" ∷ []

-- the removal that an object states
abbrev pub stated_removal : Data → Option Entry
stated_removal d =
    if_read (document_at_key (codes "doc") d) (λ doc.
    if_read (name_at_key (codes "serial") d) (λ serial.
    if_read (moment_at_key (codes "moment") d) (λ moment.
    Some (record { doc = doc; act = Removed (record { serial = serial; moment = moment }) }))))

-- the command that an object gives by the form of a removal
abbrev pub removal_form : Data → Result Entry ℕ
removal_form d = entry_by_form (lacks_key removal_keys d) (stated_removal d) (has_other_key removal_keys d)

-- ── defer ──

-- the keys that a deferral of any category needs
abbrev pub needed_deferral_keys : List (List ℕ)
needed_deferral_keys =
    codes "do" ∷ codes "doc" ∷ codes "tail" ∷ codes "moment" ∷ codes "reference" ∷ codes "category" ∷ []

-- the keys of a deferral
abbrev pub deferral_keys : List (List ℕ)
deferral_keys =
    codes "do" ∷ codes "doc" ∷ codes "tail" ∷ codes "moment" ∷ codes "reference" ∷ codes "category" ∷ codes "days" ∷ []

-- the deferral that an object states
abbrev pub stated_deferral : Data → Option Entry
stated_deferral d =
    if_read (document_at_key (codes "doc") d) (λ doc.
    if_read (tail_at_key (codes "tail") d) (λ tail.
    if_read (moment_at_key (codes "moment") d) (λ moment.
    if_read (name_at_key (codes "reference") d) (λ reference.
    if_read (stated_category d) (λ category.
    Some (record { doc = doc; act = Deferred (record { tail = tail; moment = moment; reference = reference; category = category }) }))))))

-- the command that an object gives by the form of a deferral
abbrev pub deferral_form : Data → Result Entry ℕ
deferral_form d =
    if_keys_agree (states_other_days d)
    (entry_by_form (lacks_key needed_deferral_keys d || lacks_days d) (stated_deferral d) (has_other_key deferral_keys d))

-- ── extend ──

-- the keys of an extension
abbrev pub extension_keys : List (List ℕ)
extension_keys = codes "do" ∷ codes "doc" ∷ codes "defect" ∷ codes "day" ∷ codes "days" ∷ []

-- the extension that an object states
abbrev pub stated_extension : Data → Option Entry
stated_extension d =
    if_read (document_at_key (codes "doc") d) (λ doc.
    if_read (document_at_key (codes "defect") d) (λ defect.
    if_read (day_at_key (codes "day") d) (λ day.
    if_read (number_at_key (codes "days") d) (λ days.
    Some (record { doc = doc; act = Extended (record { defect = defect; day = day; days = days }) })))))

-- the command that an object gives by the form of an extension
abbrev pub extension_form : Data → Result Entry ℕ
extension_form d = entry_by_form (lacks_key extension_keys d) (stated_extension d) (has_other_key extension_keys d)

-- ── each by its word ──

-- the command by the form that a word of deferred defects chooses
abbrev pub entry_by_defect_word : List ℕ → Data → Result Entry ℕ
entry_by_defect_word word d =
    if bytes_eq word (codes "defer") then deferral_form d
    else if bytes_eq word (codes "extend") then extension_form d
    else Err BAD_VALUE

-- the command by the form that a word of maintenance chooses
abbrev pub entry_by_maintenance_word : List ℕ → Data → Result Entry ℕ
entry_by_maintenance_word word d =
    if bytes_eq word (codes "fit") then fitting_form d
    else if bytes_eq word (codes "remove") then removal_form d
    else if bytes_eq word (codes "release") then release_form d
    else entry_by_defect_word word d

-- the command by the form that a word chooses
abbrev pub entry_by_word : List ℕ → Data → Result Entry ℕ
entry_by_word word d =
    if bytes_eq word (codes "add-aircraft") then aircraft_form d
    else if bytes_eq word (codes "add-component") then component_form d
    else if bytes_eq word (codes "opening") then opening_form d
    else if bytes_eq word (codes "sector") then sector_form d
    else entry_by_maintenance_word word d

-- the command by the text at `do`, if it is one
abbrev pub entry_if_word : Option (List ℕ) → Data → Result Entry ℕ
entry_if_word None d = Err BAD_VALUE
entry_if_word (Some word) d = entry_by_word word d

-- the command by what is at `do`, if something is
abbrev pub entry_by_do : Option Data → Data → Result Entry ℕ
entry_by_do None d = Err MISSING
entry_by_do (Some word) d = entry_if_word (as_str word) d

-- the command that a value states, or its fault of the least number
abbrev pub entry_by_json : Data → Result Entry ℕ
entry_by_json d = if is_some (as_object d) then entry_by_do (get (codes "do") d) d else Err BAD_VALUE
