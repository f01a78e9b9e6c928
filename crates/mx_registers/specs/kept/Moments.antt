-- Lives by moments: what was flown with an aircraft by its landings, and what a component has of it by the moments of its spans.
use Rattle.std.specs.Prelude.{◌≡◌, ℕ, ◌+◌, ◌-◌, min, nat_eq, nat_le, List, [], ◌∷◌, Bool, true, false, ◌&&◌, Option, Some, None, IfSome, filter}
use Rattle.std.specs.Option.{option_map}
use Rattle.mx_base.specs.declared.amounts.Use.{Use}
use Rattle.mx_base.specs.declared.rows.rows.SectorRow.{SectorRow}
use Rattle.mx_base.specs.declared.rows.rows.SpanRow.{SpanRow}
use Rattle.mx_book.specs.commands.Act.{Entry, sector_of}
use Rattle.mx_book.specs.commands.Same.{same_text}
use Rattle.mx_book.specs.declared.commands.item.Item.{Item}
use Rattle.mx_book.specs.declared.commands.item.Item.TheVariants.{Airframe, Component}
use Rattle.mx_book.specs.declared.commands.sector.Sector.{Sector}
use Rattle.mx_book.specs.Late.{is_during}
use Rattle.mx_book.specs.Life.{cycles_of, has_landed_by, minutes_of, opening_of}
use Rattle.mx_book.specs.Register.{register}
use Rattle.mx_book.specs.Span.{Span, spans_of}

-- ── no sector is cut ──

-- a sector of the span's aircraft was under way neither when the span began nor when it ended
abbrev pub IsUncut : Sector → Span → Type 0
IsUncut s span = same_text span.tail s.tail ≡ true → (is_during s span.from ≡ false) × IfSome span.to (λ m. is_during s m ≡ false)

-- ── what was flown by a moment ──

-- the sectors of an aircraft that had landed by a moment, where one is named
abbrev pub landed_by : List Entry → List ℕ → Option ℕ → List Sector
landed_by book tail until = filter (λ s. same_text tail s.tail && has_landed_by until s) (register sector_of book)

-- what was flown with an aircraft by then
abbrev pub flown_by : List Entry → List ℕ → Option ℕ → Use
flown_by book tail until = record { minutes = minutes_of (landed_by book tail until); cycles = cycles_of (landed_by book tail until) }

-- the sooner of two moments, where they are named
abbrev pub sooner : Option ℕ → Option ℕ → Option ℕ
sooner None other = other
sooner (Some n) None = Some n
sooner (Some n) (Some m) = Some (min n m)

-- one use more than another
abbrev pub use_more : Use → Use → Use
use_more more life = record { minutes = life.minutes + more.minutes; cycles = life.cycles + more.cycles }

-- what a component flew in a span by a moment: what its aircraft had flown by then, or by the end of the span where that is sooner, less what that had flown by its beginning
abbrev pub flown_in : List Entry → Option ℕ → Span → Use
flown_in book until span =
    let later = flown_by book span.tail (sooner until span.to) in
    let earlier = flown_by book span.tail (Some span.from) in
    record { minutes = later.minutes - earlier.minutes; cycles = later.cycles - earlier.cycles }

-- what it flew in some spans
abbrev pub flown_in_all : List Entry → Option ℕ → List Span → Use
flown_in_all book until [] = record { minutes = 0; cycles = 0 }
flown_in_all book until (span ∷ spans) = use_more (flown_in_all book until spans) (flown_in book until span)

-- what an item flew by a moment
abbrev pub flown_of : List Entry → Item → Option ℕ → Use
flown_of book (Airframe tail) until = flown_by book tail until
flown_of book (Component serial) until = flown_in_all book until (spans_of book serial)

-- the life of an item up to a moment, where one is named: its opening and what it flew by then
abbrev pub life_by_moments : List Entry → Item → Option ℕ → Option Use
life_by_moments book item until = option_map (use_more (flown_of book item until)) (opening_of book item)

-- ── by rows ──

-- the moment is by another, where one is named
abbrev pub is_by : Option ℕ → ℕ → Bool
is_by None moment = true
is_by (Some until) moment = nat_le moment until

-- the sectors of the aircraft with a number that had landed by a moment, where one is named
abbrev pub rows_landed : List SectorRow → ℕ → Option ℕ → List SectorRow
rows_landed rows aircraft until = filter (λ row. nat_eq row.aircraft aircraft && is_by until row.landed) rows

-- the flight minutes of sectors
abbrev pub minutes_in : List SectorRow → ℕ
minutes_in [] = 0
minutes_in (row ∷ rows) = row.landed - row.took_off + minutes_in rows

-- their cycles
abbrev pub cycles_in : List SectorRow → ℕ
cycles_in [] = 0
cycles_in (row ∷ rows) = row.cycles + cycles_in rows

-- what was flown with the aircraft with a number by then
abbrev pub flown_with : List SectorRow → ℕ → Option ℕ → Use
flown_with rows aircraft until = record { minutes = minutes_in (rows_landed rows aircraft until); cycles = cycles_in (rows_landed rows aircraft until) }

-- what a component flew in a span by then
abbrev pub flown_while : List SectorRow → Option ℕ → SpanRow → Use
flown_while rows until span =
    let later = flown_with rows span.aircraft (sooner until span.to) in
    let earlier = flown_with rows span.aircraft (Some span.from) in
    record { minutes = later.minutes - earlier.minutes; cycles = later.cycles - earlier.cycles }

-- what it flew in some spans
abbrev pub flown_while_all : List SectorRow → Option ℕ → List SpanRow → Use
flown_while_all rows until [] = record { minutes = 0; cycles = 0 }
flown_while_all rows until (span ∷ spans) = use_more (flown_while_all rows until spans) (flown_while rows until span)

-- what the item with a number flew by then: no span is of an aircraft, and no sector of a component
abbrev pub flown_by_number : List SectorRow → List SpanRow → ℕ → Option ℕ → Use
flown_by_number rows spans number until = use_more (flown_with rows number until) (flown_while_all rows until (filter (λ row. nat_eq row.component number) spans))
