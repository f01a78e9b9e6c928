-- The positions of the aircraft, in a map, and which an entry gives.
use Rattle.std.specs.Prelude.{ℕ, List, [], map, Option, Some, None}
use Rattle.mx_book.specs.commands.Act.{Act, Entry, Added}
use Rattle.mx_book.specs.Register.{part_at}
use Rattle.mx_indexed_book.specs.maps.Maps.{IsIndex}
use Rattle.mx_indexed_book.specs.maps.Places.{names_cmp}
use Rattle.std.specs.BTreeMap.{BTreeMap}

-- the parts that an entry gives positions, each by its aircraft and its name
abbrev pub parts_given : Act → List ((List ℕ × List ℕ) × Option (List ℕ))
parts_given (Added a positions) = map (λ p. ((a.tail, p.0), Some p.1)) positions
parts_given _ = []

-- the part that a position takes
abbrev pub part_of : List Entry → List ℕ × List ℕ → Option (List ℕ)
part_of book place = part_at book place.0 place.1

-- the map has the part that each position takes
abbrev pub ArePositions : List Entry → BTreeMap (List ℕ × List ℕ) (Option (List ℕ)) → Type 0
ArePositions book parts = IsIndex names_cmp None (part_of book) parts
