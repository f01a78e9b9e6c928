-- What a sector that is entered late would cross: sectors of its aircraft that were under way with it, and work on its aircraft while it was.
use Rattle.std.specs.Prelude.{ℕ, ◌+◌, nat_lt, List, [], ◌∷◌, Bool, false, ◌&&◌, Option, Some, None, if◌then◌else◌, take}
use Rattle.mx_book.specs.commands.Act.{Act, Entry, Flown, Fitted, Removed, Released}
use Rattle.mx_book.specs.commands.Same.{same_text}
use Rattle.mx_book.specs.declared.commands.release.Place.{Place}
use Rattle.mx_book.specs.declared.commands.release.Place.TheVariants.{Aircraft, Shop}
use Rattle.mx_book.specs.declared.commands.sector.Sector.{Sector}
use Rattle.mx_book.specs.Span.{is_fitted_to}

-- the sector and another of its aircraft were under way at the same time
abbrev pub overlaps : Sector → Act → Bool
overlaps s (Flown other) = same_text other.tail s.tail && (nat_lt other.off s.on && nat_lt s.off other.on)
overlaps s _ = false

-- the number of the first entry that is a sector which overlaps this one, where the entries are numbered from k
abbrev pub overlap_from : Sector → ℕ → List Entry → Option ℕ
overlap_from s k [] = None
overlap_from s k (entry ∷ later) = if overlaps s entry.act then Some k else overlap_from s (k + 1) later

-- the number of the first entry that a sector overlaps
abbrev pub first_overlapped : List Entry → Sector → Option ℕ
first_overlapped book s = overlap_from s 1 book

-- the moment is after the take-off of the sector and before its landing
abbrev pub is_during : Sector → ℕ → Bool
is_during s moment = nat_lt s.off moment && nat_lt moment s.on

-- the place is the aircraft with a registration
abbrev pub is_aircraft : List ℕ → Place → Bool
is_aircraft tail (Aircraft t) = same_text t tail
is_aircraft tail (Shop serial kind) = false

-- while the sector was under way, the entry behind these before it fits a component to its aircraft, removes one that is fitted to it, or releases work at it
abbrev pub straddles : Sector → List Entry → Act → Bool
straddles s before (Fitted f) = same_text f.tail s.tail && is_during s f.moment
straddles s before (Removed r) = is_fitted_to before s.tail r.serial && is_during s r.moment
straddles s before (Released r lines) = is_aircraft s.tail r.place && is_during s r.moment
straddles s before _ = false

-- the number of the first of these last entries of a book that the sector straddles, where there are k before them
abbrev pub straddle_from : Sector → List Entry → ℕ → List Entry → Option ℕ
straddle_from s book k [] = None
straddle_from s book k (entry ∷ later) = if straddles s (take k book) entry.act then Some (k + 1) else straddle_from s book (k + 1) later

-- the number of the first entry that a sector straddles
abbrev pub first_straddled : List Entry → Sector → Option ℕ
first_straddled book s = straddle_from s book 0 book
