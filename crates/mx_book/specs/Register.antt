-- The registers of a book: what its entries of one kind say, and finding a row there. A book is the list of its entries, the first one first.
use Rattle.std.specs.Prelude.{ℕ, List, [], length, nat_lt, not, Bool, false, Option, find, if◌then◌else◌}
use Rattle.std.specs.List.{filter_map, flat_map}
use Rattle.std.specs.Option.{option_map, option_map_or}
use Rattle.mx_book.specs.commands.Act.{Act, Entry, Added, aircraft_of, component_of}
use Rattle.mx_book.specs.commands.Same.{same_text}
use Rattle.mx_book.specs.declared.commands.aircraft.Aircraft.{Aircraft}
use Rattle.mx_book.specs.declared.commands.component.Component.{Component}
use Rattle.mx_book.specs.declared.commands.item.Item.{Item}
use Rattle.mx_book.specs.declared.commands.item.Item.TheVariants as items
use Rattle.mx_book.specs.declared.limits.TheConstants.{MOST_AIRCRAFT, MOST_COMPONENTS}
use Rattle.mx_book.specs.declared.found.Found.{Found}
use Rattle.mx_book.specs.declared.found.Found.TheVariants as founds

-- what the entries of one kind say, in their order
abbrev pub register : {Row : Type 0} → (Act → Option Row) → List Entry → List Row
register pick book = filter_map (λ entry. pick entry.act) book

-- the aircraft with this registration
abbrev pub aircraft : List Entry → List ℕ → Option Aircraft
aircraft book tail = find (λ a. same_text a.tail tail) (register aircraft_of book)

-- the component with this serial number
abbrev pub component : List Entry → List ℕ → Option Component
component book serial = find (λ c. same_text c.serial serial) (register component_of book)

-- there is room for one more aircraft: there are fewer than 50
abbrev pub has_room_for_aircraft : List Entry → Bool
has_room_for_aircraft book = nat_lt (length (register aircraft_of book)) MOST_AIRCRAFT

-- there is room for one more component: there are fewer than 5,000
abbrev pub has_room_for_component : List Entry → Bool
has_room_for_component book = nat_lt (length (register component_of book)) MOST_COMPONENTS

-- the component is of this part
abbrev pub is_of_part : List Entry → List ℕ → List ℕ → Bool
is_of_part book serial part = option_map_or (λ c. same_text c.part part) (component book serial) false

-- what the registers have of an item: the aircraft or the component, where there is one
abbrev pub found_of : List Entry → Item → Found
found_of book (items.Airframe tail) = founds.Airframe (aircraft book tail)
found_of book (items.Component serial) = founds.Component (component book serial)

-- the day on which what was found was built, or day 0 where nothing was found
abbrev pub birth_in : Found → ℕ
birth_in (founds.Airframe found) = option_map_or (λ a. a.birth) found 0
birth_in (founds.Component found) = option_map_or (λ c. c.birth) found 0

-- the day on which an item was built, or day 0 where there is no such item
abbrev pub birth : List Entry → Item → ℕ
birth book item = birth_in (found_of book item)

-- the moment up to which the opening of what was found counts, or moment 0 where nothing was found
abbrev pub as_of_in : Found → ℕ
as_of_in (founds.Airframe found) = option_map_or (λ a. a.as_of) found 0
as_of_in (founds.Component found) = option_map_or (λ c. c.as_of) found 0

-- the moment up to which the opening of an item counts, or moment 0 where there is no such item
abbrev pub as_of : List Entry → Item → ℕ
as_of book item = as_of_in (found_of book item)

-- what was found is an aircraft of another kind
abbrev pub is_other_kind_in : List ℕ → Found → Bool
is_other_kind_in kind (founds.Airframe found) = option_map_or (λ a. not (same_text a.kind kind)) found false
is_other_kind_in kind (founds.Component found) = false

-- the positions that an entry gives the aircraft with this registration, where it adds that aircraft
abbrev pub positions_added : List ℕ → Act → List (List ℕ × List ℕ)
positions_added tail (Added a positions) = if same_text a.tail tail then positions else []
positions_added tail _ = []

-- the positions of an aircraft, each with the part that it takes
abbrev pub positions : List Entry → List ℕ → List (List ℕ × List ℕ)
positions book tail = flat_map (λ entry. positions_added tail entry.act) book

-- the part that the position with this name takes
abbrev pub part_among : List (List ℕ × List ℕ) → List ℕ → Option (List ℕ)
part_among positions position = option_map (λ p. p.1) (find (λ p. same_text p.0 position) positions)

-- the part that a position of an aircraft takes
abbrev pub part_at : List Entry → List ℕ → List ℕ → Option (List ℕ)
part_at book tail position = part_among (positions book tail) position
