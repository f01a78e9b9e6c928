-- The clocks of the items in maps, and which an entry raises.
use Rattle.std.specs.Prelude.{ℕ, max, List, Option, Some, None}
use Rattle.std.specs.Option.{option_map}
use Rattle.std.specs.Ordering.{nat_cmp}
use Rattle.std.specs.Cmp.Lexicographic.{slice_cmp}
use Rattle.mx_book.specs.commands.Act.{Act, Entry, Added, Listed, Flown, Fitted, Removed, Released, Deferred}
use Rattle.mx_book.specs.declared.commands.item.Item.TheVariants.{Airframe, Component}
use Rattle.mx_book.specs.declared.commands.release.Place.{Place}
use Rattle.mx_book.specs.declared.commands.release.Place.TheVariants as places
use Rattle.mx_book.specs.Life.{clock}
use Rattle.mx_book.specs.Span.{tail_fitted}
use Rattle.mx_indexed_book.specs.maps.Maps.{HasRoom, IsIndex}
use Rattle.mx_indexed_book.specs.declared.maps.clocks.ClockChanges.{ClockChanges}
use Rattle.mx_indexed_book.specs.declared.maps.clocks.Clocks.{Clocks}

-- the aircraft at a place, and the moment of the work there
abbrev pub aircraft_at : Place → ℕ → Option (List ℕ × ℕ)
aircraft_at (places.Aircraft tail) moment = Some (tail, moment)
aircraft_at (places.Shop serial kind) moment = None

-- the component in the shop at a place, and the moment of the work there
abbrev pub component_in_shop : Place → ℕ → Option (List ℕ × ℕ)
component_in_shop (places.Aircraft tail) moment = None
component_in_shop (places.Shop serial kind) moment = Some (serial, moment)

-- the airframe to whose clock an entry gives a moment, and that: a removal is of the aircraft that the component is fitted to
abbrev pub airframe_moment : List Entry → Act → Option (List ℕ × ℕ)
airframe_moment book (Added a positions) = Some (a.tail, a.as_of)
airframe_moment book (Flown s) = Some (s.tail, s.on)
airframe_moment book (Fitted f) = Some (f.tail, f.moment)
airframe_moment book (Removed r) = option_map (λ tail. (tail, r.moment)) (tail_fitted book r.serial)
airframe_moment book (Released r lines) = aircraft_at r.place r.moment
airframe_moment book (Deferred d) = Some (d.tail, d.moment)
airframe_moment book _ = None

-- the component to whose clock an entry gives a moment, and that
abbrev pub component_moment : Act → Option (List ℕ × ℕ)
component_moment (Listed c) = Some (c.serial, c.as_of)
component_moment (Fitted f) = Some (f.serial, f.moment)
component_moment (Removed r) = Some (r.serial, r.moment)
component_moment (Released r lines) = component_in_shop r.place r.moment
component_moment _ = None

-- the clock is raised to the moment, where that is later
abbrev pub raised : (List ℕ → ℕ) → Option (List ℕ × ℕ) → Option (List ℕ × ℕ)
raised clock given = option_map (λ to. (to.0, max (clock to.0) to.1)) given

-- the clocks of the airframes, and those of the components
abbrev pub airframe_clock : List Entry → List ℕ → ℕ
airframe_clock book tail = clock book (Airframe tail)

abbrev pub component_clock : List Entry → List ℕ → ℕ
component_clock book serial = clock book (Component serial)

-- what an entry changes: the clock of an airframe, and that of a component
abbrev pub clocks_changed : List Entry → Entry → ClockChanges
clocks_changed book entry = record {
  airframe = raised (airframe_clock book) (airframe_moment book entry.act);
  component = raised (component_clock book) (component_moment entry.act);
}

-- the maps have the clocks, and the first moment of all where there is none
pub record AreClocks (book : List Entry) (maps : Clocks) : Type 0 where
  pub airframes_are : IsIndex (slice_cmp nat_cmp) 0 (airframe_clock book) maps.airframes
  pub components_are : IsIndex (slice_cmp nat_cmp) 0 (component_clock book) maps.components

-- each map has room for its change
pub record ClocksHaveRoom (changes : ClockChanges) (maps : Clocks) : Type 0 where
  pub for_airframe : HasRoom (slice_cmp nat_cmp) changes.airframe maps.airframes
  pub for_component : HasRoom (slice_cmp nat_cmp) changes.component maps.components
