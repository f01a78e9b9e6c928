-- What one command gives the items of a book: sectors to their lives, moments to their clocks, and an end to their spans.
-- What a sector changes is said by the moments of the spans: which items it is credited to, and that the clock of its
-- airframe is raised to its landing where that is later. Each sector takes off by that clock, so it goes to what is
-- fitted now; that is a law with this premise, and no definition rests on it.
use Rattle.std.specs.Prelude.{ℕ, ◌≤◌, List, [], ◌∷◌, Option, Some, IfSome, is_none, filter, ◌&&◌, if◌then◌else◌}
use Rattle.std.specs.Option.{option_map_or, option_and_then}
use Rattle.mx_base.specs.declared.amounts.Limit.{Limit}
use Rattle.mx_book.specs.commands.Act.{Act, Entry, Flown, Removed}
use Rattle.mx_book.specs.commands.Same.{same_text}
use Rattle.mx_book.specs.declared.commands.item.Item.{Item}
use Rattle.mx_book.specs.declared.commands.item.Item.TheVariants.{Airframe, Component}
use Rattle.mx_book.specs.declared.commands.release.Place.{Place}
use Rattle.mx_book.specs.declared.commands.sector.Sector.{Sector}
use Rattle.mx_book.specs.due.Due.{due_after}
use Rattle.mx_book.specs.Base.{base}
use Rattle.mx_book.specs.Life.{airframe_moments, component_moments, clock, has_landed_by, is_credited}
use Rattle.mx_book.specs.Programme.{task_at}
use Rattle.mx_book.specs.Register.{birth}
use Rattle.mx_book.specs.Span.{Span, is_fitted_to, tail_fitted}

-- the entry with a document that says this
abbrev pub entry_of : List ℕ → Act → Entry
entry_of doc act = record { doc = doc; act = act }

-- the span, ended where it is open and the entry removes its component
abbrev pub ended_by : Act → Span → Span
ended_by (Removed r) s = if is_none s.to && same_text s.serial r.serial then record s { to = Some r.moment } else s
ended_by _ s = s

-- the span begins by the clock of its airframe, and ends by that and by the clock of its component
abbrev pub IsTimed : List Entry → Span → Type 0
IsTimed book s = (s.from ≤ clock book (Airframe s.tail)) × IfSome s.to (λ m. (m ≤ clock book (Airframe s.tail)) × (m ≤ clock book (Component s.serial)))

-- the sectors that an entry adds to those of an item: its own, where the item is credited with it
abbrev pub sectors_given : List Entry → Item → Act → List Sector
sectors_given before item (Flown s) = if is_credited before item s then s ∷ [] else []
sectors_given before item _ = []

-- the moments that an entry gives the clock of an item, behind the entries before it: a removal is of the aircraft that the component is fitted to
abbrev pub moments_given : List Entry → Item → Act → List ℕ
moments_given before (Airframe tail) (Removed r) = if is_fitted_to before tail r.serial then r.moment ∷ [] else []
moments_given before (Airframe tail) act = airframe_moments tail act
moments_given before (Component serial) act = component_moments serial act

-- the clock of the place where an item is: of an airframe its own, of a component that of the airframe that it is fitted to, or its own where it is fitted to none
abbrev pub clock_of_place : List Entry → Item → ℕ
clock_of_place book (Airframe tail) = clock book (Airframe tail)
clock_of_place book (Component serial) = option_map_or (λ tail. clock book (Airframe tail)) (tail_fitted book serial) (clock book (Component serial))

-- the sectors that an entry adds to those of an item, and that had landed by the clock of the place where it is: those that are entered late
abbrev pub sectors_late : List Entry → Item → Act → List Sector
sectors_late before item act = filter (has_landed_by (Some (clock_of_place before item))) (sectors_given before item act)

-- when a task of an item is due, where it is, by the programme in force at a place
abbrev pub due_at : List Entry → Place → Item → List ℕ → Option Limit
due_at book place item id = option_and_then (due_after (base book item id) (birth book item)) (task_at book place id)
