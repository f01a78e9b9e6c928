-- Which sectors an item is credited with, its life, and its clock.
use Rattle.std.specs.Prelude.{ℕ, ◌+◌, ◌-◌, max, nat_le, List, [], ◌∷◌, Bool, true, ◌&&◌, Option, Some, None, if◌then◌else◌, filter}
use Rattle.std.specs.List.{filter_map, flat_map, list_any}
use Rattle.std.specs.Option.{option_map, option_map_or}
use Rattle.mx_base.specs.declared.amounts.Use.{Use}
use Rattle.mx_book.specs.commands.Act.{Act, Entry, Added, Listed, Flown, Fitted, Removed, Released, Deferred, sector_of}
use Rattle.mx_book.specs.commands.Same.{same_text}
use Rattle.mx_book.specs.declared.commands.item.Item.{Item}
use Rattle.mx_book.specs.declared.commands.item.Item.TheVariants.{Airframe, Component}
use Rattle.mx_book.specs.declared.commands.release.Place.{Place}
use Rattle.mx_book.specs.declared.commands.release.Place.TheVariants as places
use Rattle.mx_book.specs.declared.commands.sector.Sector.{Sector}
use Rattle.mx_book.specs.declared.found.Found.{Found}
use Rattle.mx_book.specs.declared.found.Found.TheVariants as founds
use Rattle.mx_book.specs.Register.{register, found_of}
use Rattle.mx_book.specs.Span.{Span, spans, spans_of, span_begun}

-- the sector is flown within the span: with its aircraft, taken off from the fitting on, and landed by the removal
abbrev pub is_within : Sector → Span → Bool
is_within s span = same_text span.tail s.tail && (nat_le span.from s.off && option_map_or (λ to. nat_le s.on to) span.to true)

-- the item is credited with the sector: an airframe with all of its tail, a component with each within one of its spans
abbrev pub is_credited : List Entry → Item → Sector → Bool
is_credited book (Airframe tail) s = same_text s.tail tail
is_credited book (Component serial) s = list_any (is_within s) (spans_of book serial)

-- the sectors that an item is credited with
abbrev pub credited : List Entry → Item → List Sector
credited book item = filter (is_credited book item) (register sector_of book)

-- the flight minutes of a sector, from take-off to landing
abbrev pub minutes_flown : Sector → ℕ
minutes_flown s = s.on - s.off

-- the flight minutes of sectors
abbrev pub minutes_of : List Sector → ℕ
minutes_of [] = 0
minutes_of (s ∷ sectors) = minutes_flown s + minutes_of sectors

-- the cycles of sectors
abbrev pub cycles_of : List Sector → ℕ
cycles_of [] = 0
cycles_of (s ∷ sectors) = s.cycles + cycles_of sectors

-- a use, and the sectors flown since
abbrev pub use_after : List Sector → Use → Use
use_after sectors opening = record { minutes = opening.minutes + minutes_of sectors; cycles = opening.cycles + cycles_of sectors }

-- the use that what was found brought with it
abbrev pub opening_in : Found → Option Use
opening_in (founds.Airframe found) = option_map (λ a. a.opening) found
opening_in (founds.Component found) = option_map (λ c. c.opening) found

-- the use that an item brought with it
abbrev pub opening_of : List Entry → Item → Option Use
opening_of book item = opening_in (found_of book item)

-- the sector has landed by the moment, where one is named
abbrev pub has_landed_by : Option ℕ → Sector → Bool
has_landed_by None s = true
has_landed_by (Some moment) s = nat_le s.on moment

-- the life of an item up to a moment, where one is named: its opening and the credited sectors that had landed by then
abbrev pub life_until : List Entry → Item → Option ℕ → Option Use
life_until book item until = option_map (use_after (filter (has_landed_by until) (credited book item))) (opening_of book item)

-- the life of an item up to a moment
abbrev pub life_at : List Entry → Item → ℕ → Option Use
life_at book item moment = life_until book item (Some moment)

-- the life of an item with all of its credited sectors
abbrev pub life_now : List Entry → Item → Option Use
life_now book item = life_until book item None

-- the use, or none
abbrev pub use_or_none : Option Use → Use
use_or_none None = record { minutes = 0; cycles = 0 }
use_or_none (Some u) = u

-- the greatest of some moments
abbrev pub latest : List ℕ → ℕ
latest [] = 0
latest (moment ∷ moments) = max moment (latest moments)

-- the moment, where the texts are the same
abbrev pub if_same : List ℕ → List ℕ → ℕ → List ℕ
if_same a b moment = if same_text a b then moment ∷ [] else []

-- the moment of work at a place, where that is the aircraft with a registration
abbrev pub if_at_aircraft : List ℕ → Place → ℕ → List ℕ
if_at_aircraft tail (places.Aircraft t) moment = if_same t tail moment
if_at_aircraft tail (places.Shop s kind) moment = []

-- the moment of work at a place, where that is a shop that has the component with a serial number
abbrev pub if_in_shop : List ℕ → Place → ℕ → List ℕ
if_in_shop serial (places.Aircraft t) moment = []
if_in_shop serial (places.Shop s kind) moment = if_same s serial moment

-- the moments that an entry gives the clock of an airframe, removals aside: its as_of, each landing, each fitting to it, each release at it, each defect found on it
abbrev pub airframe_moments : List ℕ → Act → List ℕ
airframe_moments tail (Added a positions) = if_same a.tail tail a.as_of
airframe_moments tail (Flown s) = if_same s.tail tail s.on
airframe_moments tail (Fitted f) = if_same f.tail tail f.moment
airframe_moments tail (Released r lines) = if_at_aircraft tail r.place r.moment
airframe_moments tail (Deferred d) = if_same d.tail tail d.moment
airframe_moments tail _ = []

-- the moments that an entry gives the clock of a component: its as_of, each fitting, each removal, each release of it in a shop
abbrev pub component_moments : List ℕ → Act → List ℕ
component_moments serial (Listed c) = if_same c.serial serial c.as_of
component_moments serial (Fitted f) = if_same f.serial serial f.moment
component_moments serial (Removed r) = if_same r.serial serial r.moment
component_moments serial (Released r lines) = if_in_shop serial r.place r.moment
component_moments serial _ = []

-- the moments at which components were removed from an aircraft: the ends of the spans there
abbrev pub removals_from : List Entry → List ℕ → List ℕ
removals_from book tail = filter_map (λ s. s.to) (filter (λ s. same_text s.tail tail) (spans book))

-- the clock of an item: the latest moment that the book has of it
abbrev pub clock : List Entry → Item → ℕ
clock book (Airframe tail) = max (latest (flat_map (λ entry. airframe_moments tail entry.act) book)) (latest (removals_from book tail))
clock book (Component serial) = latest (flat_map (λ entry. component_moments serial entry.act) book)

-- ── how the plain program sums a life: entry by entry ──

-- the credited sectors among some entries, by a moment where one is named
abbrev pub selected : List Entry → Item → Option ℕ → List Entry → List Sector
selected book item until entries = filter (has_landed_by until) (filter (is_credited book item) (register sector_of entries))

-- what an entry adds to the life of an item
abbrev pub share : List Entry → Item → Option ℕ → Act → Use
share book item until (Flown s) =
    if is_credited book item s && has_landed_by until s then record { minutes = minutes_flown s; cycles = s.cycles } else record { minutes = 0; cycles = 0 }
share book item until _ = record { minutes = 0; cycles = 0 }

-- ── how the plain program finds removals: entry by entry ──

-- the moment at which the component of the span that an entry begins was removed from an aircraft
abbrev pub removals_begun : Entry → List Entry → List ℕ → List ℕ
removals_begun entry later tail = filter_map (λ s. s.to) (filter (λ s. same_text s.tail tail) (span_begun entry.act later))
