-- What is fitted to an aircraft by places, as lists ask it of records, and the parts that they make of the answer.
use Rattle.std.specs.Prelude.{ℕ, List, map, filter, Option}
use Rattle.mx_book.specs.commands.Act.{Entry}
use Rattle.mx_book.specs.Span.{Span, spans, is_open_on}
use Rattle.mx_lists.specs.declared.life_list.FittedPart.{FittedPart}
use Rattle.mx_lists.specs.LifeList.{part_in}

-- the position and the component of a span
abbrev pub place_of : Span → List ℕ × List ℕ
place_of s = (s.position, s.serial)

-- the components that some entries leave fitted to an aircraft, each behind its position, in the order of their fittings
abbrev pub fitted_on : List ℕ → List Entry → List (List ℕ × List ℕ)
fitted_on tail entries = map place_of (filter (is_open_on tail) (spans entries))

-- the component in a position, with its life
abbrev pub part_of_place : List Entry → List ℕ × List ℕ → Option FittedPart
part_of_place book place = part_in book place.0 place.1
