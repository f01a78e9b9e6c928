use Rattle.std.proofs.Common.{◌≡◌, ◌≤◌, ◌++◌, List}
use Rattle.mx_book.specs.commands.Act.{Entry}
use Rattle.mx_indexed_book.specs.maps.Movements.{AreMovements, behind, movement_count, movements}
use Rattle.mx_indexed_book.proofs.MapsProofs.MovementLemmas.{earliest}
use Rattle.mx_indexed_book.proofs.maps.movements.Movements.behind.Given as goal

-- those so far, and those of the earlier ones, are all that came behind the moment
abbrev pub invariant-loop-movement : goal.invariant-loop-movement
invariant-loop-movement l = (book : List Entry) → AreMovements book l.self
    → (l.count ≤ movement_count book l.tail) × (l.found.items ++ behind l.moment (earliest l.count (movements book l.tail)) ≡ behind l.moment (movements book l.tail))

abbrev pub decreases-loop-movement : goal.decreases-loop-movement
decreases-loop-movement l = l.count
