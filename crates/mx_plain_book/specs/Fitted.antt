-- How the plain program finds what is fitted to an aircraft: entry by entry.
use Rattle.std.specs.Prelude.{ℕ, List, map, filter}
use Rattle.mx_book.specs.commands.Act.{Entry}
use Rattle.mx_book.specs.Span.{span_begun, is_open_on}
use Rattle.mx_lists.specs.Fitted.{place_of}

-- the position and the component that one entry, before later ones, leaves fitted to the aircraft
abbrev pub fitted_begun : List ℕ → Entry → List Entry → List (List ℕ × List ℕ)
fitted_begun tail entry later = map place_of (filter (is_open_on tail) (span_begun entry.act later))
