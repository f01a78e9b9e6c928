-- Where components are fitted, in maps, and what an entry changes of that.
use Rattle.std.specs.Prelude.{ℕ, List, Bool, true, false, Option, Some, None}
use Rattle.std.specs.Option.{option_map}
use Rattle.std.specs.declared.cmp.Ordering.{Ordering}
use Rattle.std.specs.Ordering.{nat_cmp, ordering_then}
use Rattle.std.specs.Cmp.Lexicographic.{slice_cmp}
use Rattle.mx_book.specs.commands.Act.{Act, Entry, Fitted, Removed}
use Rattle.mx_book.specs.Span.{fitted, is_taken}
use Rattle.mx_indexed_book.specs.maps.Maps.{HasRoom, IsIndex}
use Rattle.mx_indexed_book.specs.declared.maps.places.PlaceChanges.{PlaceChanges}
use Rattle.mx_indexed_book.specs.declared.maps.places.Places.{Places}

-- the order of two names: by the first, and then by the second
abbrev pub names_cmp : List ℕ × List ℕ → List ℕ × List ℕ → Ordering
names_cmp a b = ordering_then (slice_cmp nat_cmp a.0 b.0) (slice_cmp nat_cmp a.1 b.1)

-- the aircraft and the position that a component is fitted to
abbrev pub place_of : List Entry → List ℕ → Option (List ℕ × List ℕ)
place_of book serial = option_map (λ s. (s.tail, s.position)) (fitted book serial)

-- a component is fitted to the position of the aircraft
abbrev pub has_component : List Entry → List ℕ × List ℕ → Bool
has_component book place = is_taken book place.0 place.1

-- the component that an entry moves, and where it is fitted then
abbrev pub component_moved : Act → Option (List ℕ × Option (List ℕ × List ℕ))
component_moved (Fitted f) = Some (f.serial, Some (f.tail, f.position))
component_moved (Removed r) = Some (r.serial, None)
component_moved _ = None

-- the place that an entry gives a component or takes it from, and whether it has one then
abbrev pub place_changed : List Entry → Act → Option ((List ℕ × List ℕ) × Bool)
place_changed book (Fitted f) = Some ((f.tail, f.position), true)
place_changed book (Removed r) = option_map (λ place. (place, false)) (place_of book r.serial)
place_changed book _ = None

-- what an entry changes: where its component is fitted, and what is fitted there
abbrev pub places_changed : List Entry → Entry → PlaceChanges
places_changed book entry = record {
  component = component_moved entry.act;
  place = place_changed book entry.act;
}

-- the maps have where each component is fitted, and whether each position is taken
pub record ArePlaces (book : List Entry) (maps : Places) : Type 0 where
  pub fitted_are : IsIndex (slice_cmp nat_cmp) None (place_of book) maps.fitted
  pub taken_are : IsIndex names_cmp false (has_component book) maps.taken

-- each map has room for its change
pub record PlacesHaveRoom (changes : PlaceChanges) (maps : Places) : Type 0 where
  pub for_component : HasRoom (slice_cmp nat_cmp) changes.component maps.fitted
  pub for_place : HasRoom names_cmp changes.place maps.taken
