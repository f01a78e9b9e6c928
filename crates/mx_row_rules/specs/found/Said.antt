-- What the rows of aircraft, of their positions and of components that were found say.
use Rattle.std.specs.Prelude.{ℕ, List, Option, find, slice_get}
use Rattle.std.specs.Option.{option_map}
use Rattle.mx_book.specs.commands.Same.{same_text}
use Rattle.mx_book.specs.declared.commands.aircraft.Aircraft.{Aircraft}
use Rattle.mx_book.specs.declared.commands.component.Component.{Component}
use Rattle.mx_base.specs.declared.rows.rows.AircraftRow.{AircraftRow}
use Rattle.mx_base.specs.declared.rows.rows.ComponentRow.{ComponentRow}
use Rattle.mx_base.specs.declared.rows.rows.PlaceRow.{PlaceRow}

-- the aircraft that its row says
abbrev pub aircraft_said : AircraftRow → Aircraft
aircraft_said row = record { tail = row.tail; kind = row.kind; birth = row.birth; opening = record { minutes = row.minutes; cycles = row.cycles }; as_of = row.as_of }

-- the aircraft that the first of these rows says
abbrev pub aircraft_in : List AircraftRow → Option Aircraft
aircraft_in rows = option_map aircraft_said (slice_get rows 0)

-- the component that its row says
abbrev pub component_said : ComponentRow → Component
component_said row = record { serial = row.serial; part = row.part; birth = row.birth; opening = record { minutes = row.minutes; cycles = row.cycles }; as_of = row.as_of }

-- the component that the first of these rows says
abbrev pub component_in : List ComponentRow → Option Component
component_in rows = option_map component_said (slice_get rows 0)

-- the part that the position with this name takes, by the rows of an aircraft's positions
abbrev pub part_in : List PlaceRow → List ℕ → Option (List ℕ)
part_in rows position = option_map (λ row. row.part) (find (λ row. same_text row.position position) rows)
