-- The things that entries add, by name and by number: which entry added the aircraft with a registration, or the component with a serial number, or deferred the defect that has a document.
use Rattle.std.specs.Prelude.{ℕ, ◌+◌, List, [], ◌∷◌, Bool, false, Option, Some, None, is_some, unwrap_or, if◌then◌else◌}
use Rattle.std.specs.Option.{option_and_then, option_map, option_map_or}
use Rattle.mx_book.specs.commands.Act.{Act, Entry, Added, Listed, aircraft_of, component_of}
use Rattle.mx_book.specs.commands.Same.{same_text}
use Rattle.mx_book.specs.declared.commands.item.Item.{Item}
use Rattle.mx_book.specs.declared.commands.item.Item.TheVariants.{Airframe, Component}
use Rattle.mx_book.specs.Book.{entry_at}
use Rattle.mx_book.specs.Defect.{deferred_by}
use Rattle.mx_book.specs.Register.{aircraft, component}

-- the registration of the aircraft that an entry adds, where it adds one
abbrev pub tail_added : Entry → Option (List ℕ)
tail_added entry = option_map (λ a. a.tail) (aircraft_of entry.act)

-- the serial number of the component that an entry adds, where it adds one
abbrev pub serial_added : Entry → Option (List ℕ)
serial_added entry = option_map (λ c. c.serial) (component_of entry.act)

-- the document of the defect that an entry defers, where it defers one
abbrev pub defect_deferred : Entry → Option (List ℕ)
defect_deferred entry = option_map (λ d. d.doc) (deferred_by entry)

-- the entry adds the thing with this name
abbrev pub adds_named : (Entry → Option (List ℕ)) → List ℕ → Entry → Bool
adds_named name_of name entry = option_map_or (λ added. same_text added name) (name_of entry) false

-- the number of the first entry that adds the thing with this name, where the entries are numbered from k
abbrev pub number_from : (Entry → Option (List ℕ)) → List ℕ → ℕ → List Entry → Option ℕ
number_from name_of name k [] = None
number_from name_of name k (entry ∷ later) = if adds_named name_of name entry then Some k else number_from name_of name (k + 1) later

-- the number of the entry that added the aircraft with this registration
abbrev pub seq_of_tail : List Entry → List ℕ → Option ℕ
seq_of_tail book tail = number_from tail_added tail 1 book

-- the number of the entry that added the component with this serial number
abbrev pub seq_of_serial : List Entry → List ℕ → Option ℕ
seq_of_serial book serial = number_from serial_added serial 1 book

-- the number of the entry that deferred the defect that has this document
abbrev pub seq_of_defect : List Entry → List ℕ → Option ℕ
seq_of_defect book doc = number_from defect_deferred doc 1 book

-- the number of the entry that added the item: the aircraft of an airframe, or the component
abbrev pub seq_of_item : List Entry → Item → Option ℕ
seq_of_item book (Airframe tail) = seq_of_tail book tail
seq_of_item book (Component serial) = seq_of_serial book serial

-- the number of the entry that a name was found at, or 0, which no entry has: a command that was judged new names only what the book has
abbrev pub or_zero : Option ℕ → ℕ
or_zero number = unwrap_or number 0

-- what is picked from the entry with this number
abbrev pub said_at : {X : Type 0} → (Entry → Option X) → List Entry → ℕ → Option X
said_at pick book seq = option_and_then pick (entry_at book seq)

-- the registration of the aircraft that the entry with this number added
abbrev pub tail_at : List Entry → ℕ → Option (List ℕ)
tail_at book seq = said_at tail_added book seq

-- the serial number of the component that the entry with this number added
abbrev pub serial_at : List Entry → ℕ → Option (List ℕ)
serial_at book seq = said_at serial_added book seq

-- the document of the defect that the entry with this number deferred
abbrev pub defect_at : List Entry → ℕ → Option (List ℕ)
defect_at book seq = said_at defect_deferred book seq

-- the item that an entry adds, where it adds one: the airframe of an aircraft, or a component
abbrev pub item_added : Act → Option Item
item_added (Added aircraft positions) = Some (Airframe aircraft.tail)
item_added (Listed component) = Some (Component component.serial)
item_added _ = None

-- the item that the entry with this number added
abbrev pub item_at : List Entry → ℕ → Option Item
item_at book seq = said_at (λ entry. item_added entry.act) book seq

-- the book has the item
abbrev pub has_item : List Entry → Item → Bool
has_item book (Airframe tail) = is_some (aircraft book tail)
has_item book (Component serial) = is_some (component book serial)
