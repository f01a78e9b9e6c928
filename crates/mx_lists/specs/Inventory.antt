-- What there is: all aircraft, and all components.
use Rattle.std.specs.Prelude.{ℕ, List, map, Bool, Option, length}
use Rattle.std.specs.List.{filter_map}
use Rattle.std.specs.Option.{option_map}
use Rattle.mx_book.specs.commands.Act.{Entry, component_of}
use Rattle.mx_book.specs.declared.commands.aircraft.Aircraft.{Aircraft}
use Rattle.mx_book.specs.declared.commands.component.Component.{Component}
use Rattle.mx_book.specs.declared.commands.item.Item.TheVariants as items
use Rattle.mx_book.specs.Defect.{open_defects}
use Rattle.mx_book.specs.Life.{clock, life_now, use_or_none}
use Rattle.mx_book.specs.Register.{aircraft, component, register}
use Rattle.mx_book.specs.Span.{fitted}
use Rattle.mx_lists.specs.declared.inventory.AircraftRow.{AircraftRow}
use Rattle.mx_lists.specs.declared.inventory.ComponentRow.{ComponentRow}
use Rattle.mx_lists.specs.Fitted.{fitted_on}
use Rattle.mx_lists.specs.Fleet.{tails}
use Rattle.mx_lists.specs.Order.{in_order, text_before}

-- an aircraft: the life and the clock of its airframe, how many components are fitted to it, and how many of its defects are open
abbrev pub aircraft_row : List Entry → List ℕ → Aircraft → AircraftRow
aircraft_row book tail a = record {
  tail = tail;
  kind = a.kind;
  life = use_or_none (life_now book (items.Airframe tail));
  clock = clock book (items.Airframe tail);
  components = length (fitted_on tail book);
  defects = length (open_defects book tail);
}

-- the aircraft with a registration
abbrev pub aircraft_with : List Entry → List ℕ → Option AircraftRow
aircraft_with book tail = option_map (aircraft_row book tail) (aircraft book tail)

-- one aircraft comes before another: by their registrations
abbrev pub aircraft_before : AircraftRow → AircraftRow → Bool
aircraft_before a b = text_before a.tail b.tail

-- all aircraft, by registration
abbrev pub all_aircraft : List Entry → List AircraftRow
all_aircraft book = in_order aircraft_before (filter_map (aircraft_with book) (tails book))

-- the serial numbers of all components, in the order of their entries
abbrev pub serials : List Entry → List (List ℕ)
serials book = map (λ c. c.serial) (register component_of book)

-- the aircraft that a component is fitted to, and the position there
abbrev pub place_fitted : List Entry → List ℕ → Option (List ℕ × List ℕ)
place_fitted book serial = option_map {U = List ℕ × List ℕ} (λ s. (s.tail, s.position)) (fitted book serial)

-- a component: its life and its clock, and where it is fitted
abbrev pub component_row : List Entry → List ℕ → Component → ComponentRow
component_row book serial c = record {
  serial = serial;
  part = c.part;
  life = use_or_none (life_now book (items.Component serial));
  clock = clock book (items.Component serial);
  place = place_fitted book serial;
}

-- the component with a serial number
abbrev pub component_with : List Entry → List ℕ → Option ComponentRow
component_with book serial = option_map (component_row book serial) (component book serial)

-- one component comes before another: by their serial numbers
abbrev pub component_before : ComponentRow → ComponentRow → Bool
component_before a b = text_before a.serial b.serial

-- all components, by serial number
abbrev pub all_components : List Entry → List ComponentRow
all_components book = in_order component_before (filter_map (component_with book) (serials book))
