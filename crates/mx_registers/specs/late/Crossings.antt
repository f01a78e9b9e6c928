-- What a sector overlaps and straddles, by the rows of sectors, of spans and of releases of its aircraft.
use Rattle.std.specs.Prelude.{ℕ, min, nat_eq, nat_lt, List, [], ◌∷◌, ◌++◌, ◌&&◌, Option, Some, None, find, if◌then◌else◌}
use Rattle.std.specs.List.{flat_map}
use Rattle.std.specs.Option.{option_map}
use Rattle.mx_book.specs.declared.commands.sector.Sector.{Sector}
use Rattle.mx_book.specs.Late.{is_during}
use Rattle.mx_base.specs.declared.rows.rows.ReleaseRow.{ReleaseRow}
use Rattle.mx_base.specs.declared.rows.rows.SpanRow.{SpanRow}
use Rattle.mx_base.specs.declared.rows.rows.SectorRow.{SectorRow}

-- the first of these rows of sectors of the aircraft with a number that was under way while a sector was
abbrev pub overlapped_among : ℕ → Sector → List SectorRow → Option ℕ
overlapped_among aircraft s rows = option_map (λ row. row.seq) (find (λ row. nat_eq row.aircraft aircraft && (nat_lt row.took_off s.on && nat_lt s.off row.landed)) rows)

-- the sooner of two numbers, where there are any
abbrev pub sooner : Option ℕ → Option ℕ → Option ℕ
sooner None other = other
sooner (Some n) None = Some n
sooner (Some n) (Some m) = Some (min n m)

-- the least of some numbers, where there are any
abbrev pub least : List ℕ → Option ℕ
least [] = None
least (n ∷ ns) = sooner (Some n) (least ns)

-- the number of the removal that ends a span of an aircraft, where that is the one with a number and a sector was under way then
abbrev pub crossed_end : ℕ → Sector → ℕ → Option ℕ → Option ℕ → List ℕ
crossed_end number s aircraft (Some moment) (Some seq) = if nat_eq aircraft number && is_during s moment then seq ∷ [] else []
crossed_end number s aircraft to seq = []

-- the numbers of the fitting and of the removal of a span of the aircraft with a number, of each where a sector was under way then
abbrev pub crossed_in : ℕ → Sector → SpanRow → List ℕ
crossed_in number s row = (if nat_eq row.aircraft number && is_during s row.from then row.fit_seq ∷ [] else []) ++ crossed_end number s row.aircraft row.to row.remove_seq

-- the number of a release at the aircraft with a number, where a sector was under way then
abbrev pub crossed_by : ℕ → Sector → ReleaseRow → List ℕ
crossed_by number s row = if nat_eq row.item number && is_during s row.moment then row.seq ∷ [] else []

-- the numbers of the fittings, removals and releases at the aircraft with a number while a sector was under way
abbrev pub crossed_numbers : ℕ → Sector → List SpanRow → List ReleaseRow → List ℕ
crossed_numbers number s spans releases = flat_map (crossed_in number s) spans ++ flat_map (crossed_by number s) releases
