-- The totals of a book as rows, and what one command makes of them.
use Rattle.std.specs.Prelude.{ℕ, max, nat_eq, is_none, ◌&&◌, Bool, Option, List, [], ◌∷◌, filter, find, map, if◌then◌else◌}
use Rattle.std.specs.List.{list_any}
use Rattle.std.specs.Option.{option_map_or}
use Rattle.mx_book.specs.commands.Act.{Act, Entry, Added, Listed, Flown, Fitted, Removed, Released, Deferred}
use Rattle.mx_book.specs.declared.commands.item.Item.{Item}
use Rattle.mx_book.specs.declared.commands.sector.Sector.{Sector}
use Rattle.mx_book.specs.Life.{life_now, clock, latest, use_after, use_or_none}
use Rattle.mx_registers.specs.Names.{item_at}
use Rattle.mx_registers.specs.Registers.{next}
use Rattle.mx_base.specs.declared.rows.rows.SpanRow.{SpanRow}
use Rattle.mx_base.specs.rows.Spans.{has_between}
use Rattle.mx_base.specs.declared.rows.rows.TotalRow.{TotalRow}
use Rattle.mx_registers.specs.kept.Changes.{moments_given, sectors_given}
use Rattle.mx_registers.specs.kept.Items.{items, number_of_place, number_of_serial, number_of_tail}
use Rattle.mx_registers.specs.kept.Spans.{is_open_of, span_rows}

-- the row of an item with its number: its life now, and its clock
abbrev pub total_row : List Entry → ℕ × Item → TotalRow
total_row book numbered = record { item = numbered.0; life = use_or_none (life_now book numbered.1); clock = clock book numbered.1 }

-- the totals of a book, in the order of the entries that added the items
abbrev pub total_rows : List Entry → List TotalRow
total_rows book = map (total_row book) (items book)

-- the total of the item with a number, where there is one
abbrev pub total_in : List TotalRow → ℕ → Option TotalRow
total_in rows number = find (λ row. nat_eq row.item number) rows

-- ── one command ──

-- the row of an item, with the sectors and the moments that an entry gives it, behind the entries before it
abbrev pub total_grown : List Entry → Act → Item → TotalRow → TotalRow
total_grown before act item row = record {
  item = row.item;
  life = use_after (sectors_given before item act) row.life;
  clock = max row.clock (latest (moments_given before item act));
}

-- the row of a total behind an entry, by the item that has its number
abbrev pub total_changed : List Entry → Act → TotalRow → TotalRow
total_changed before act row = option_map_or (λ item. total_grown before act item row) (item_at before row.item) row

-- the row of the item that an entry adds, where it adds one: the use that the item brought with it, and the moment up to which that counts
abbrev pub totals_opened : List Entry → Act → List TotalRow
totals_opened before (Added a positions) = record { item = next before; life = a.opening; clock = a.as_of } ∷ []
totals_opened before (Listed c) = record { item = next before; life = c.opening; clock = c.as_of } ∷ []
totals_opened before _ = []

-- ── which totals it changes, by numbers ──

-- the numbers of an aircraft and of the components that are fitted to it, by the rows of the spans
abbrev pub numbers_there : ℕ → List SpanRow → List ℕ
numbers_there aircraft spans = aircraft ∷ map (λ row. row.component) (filter (λ row. is_none row.to && nat_eq row.aircraft aircraft) spans)

-- the numbers of an aircraft and of the components that were fitted to it throughout a flight, by the rows of the spans
abbrev pub numbers_during : ℕ → ℕ → ℕ → List SpanRow → List ℕ
numbers_during aircraft off on spans = aircraft ∷ map (λ row. row.component) (filter (λ row. has_between off on row.from row.to && nat_eq row.aircraft aircraft) spans)

-- the numbers of the aircraft of a sector and of the components that were fitted to it throughout
abbrev pub numbers_flown : List Entry → Sector → List ℕ
numbers_flown book s = numbers_during (number_of_tail book s.tail) s.off s.on (span_rows book)

-- the numbers of the aircraft of a sector and of the components that are fitted to it
abbrev pub numbers_fitted : List Entry → Sector → List ℕ
numbers_fitted book s = numbers_there (number_of_tail book s.tail) (span_rows book)

-- the numbers of the items to whose totals a command gives a sector or a moment: a sector, to those that are credited with it, whenever it was flown
abbrev pub numbers_touched : List Entry → Act → List ℕ
numbers_touched book (Flown s) = numbers_flown book s
numbers_touched book (Fitted f) = number_of_tail book f.tail ∷ number_of_serial book f.serial ∷ []
numbers_touched book (Removed r) = number_of_serial book r.serial ∷ map (λ (row : SpanRow). row.aircraft) (filter (is_open_of (number_of_serial book r.serial)) (span_rows book))
numbers_touched book (Released r lines) = number_of_place book r.place ∷ []
numbers_touched book (Deferred d) = number_of_tail book d.tail ∷ []
numbers_touched book _ = []

-- ── what is made of a row that has a number ──

-- the number of the total is among these
abbrev pub is_among : List ℕ → TotalRow → Bool
is_among numbers row = list_any (nat_eq row.item) numbers

-- the row of a total, credited with a sector where its number is among some
abbrev pub credited_row : List ℕ → Sector → TotalRow → TotalRow
credited_row numbers s row = if is_among numbers row then record row { life = use_after (s ∷ []) row.life } else row

-- the row of a total, its clock raised to a moment where it has a number and the moment is later
abbrev pub raised_row : ℕ → ℕ → TotalRow → TotalRow
raised_row number moment row = if nat_eq row.item number then record row { clock = max row.clock moment } else row

-- the row of a total, its clock set to a moment where it has a number
abbrev pub set_row : ℕ → ℕ → TotalRow → TotalRow
set_row number moment row = if nat_eq row.item number then record row { clock = moment } else row

-- the row of a total, its clock raised to a moment where its number is among some and the moment is later
abbrev pub clocked_row : List ℕ → ℕ → TotalRow → TotalRow
clocked_row numbers moment row = if is_among numbers row then record row { clock = max row.clock moment } else row

-- the row of a total behind a command, by the numbers that the command names: a sector credits what was fitted throughout and raises the clock of its aircraft, and another command raises the clocks of what it touches
abbrev pub total_by_number : List Entry → Act → TotalRow → TotalRow
total_by_number book (Flown s) row = raised_row (number_of_tail book s.tail) s.on (credited_row (numbers_flown book s) s row)
total_by_number book (Fitted f) row = clocked_row (numbers_touched book (Fitted f)) f.moment row
total_by_number book (Removed r) row = clocked_row (numbers_touched book (Removed r)) r.moment row
total_by_number book (Released r lines) row = clocked_row (numbers_touched book (Released r lines)) r.moment row
total_by_number book (Deferred d) row = clocked_row (numbers_touched book (Deferred d)) d.moment row
total_by_number book _ row = row
