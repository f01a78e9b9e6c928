use Rattle.std.proofs.Common.{◌≡◌, length}
use Rattle.std.proofs.lemmas.Map.Lookups.{CmpEqualImpliesEq}
use Rattle.mx_indexed_book.specs.maps.Maps.{HasRoomForAll, KeepsRows, held}
use Rattle.mx_indexed_book.proofs.maps.maps.make_room_for_all.Given as goal

-- the map has what it had, and a map that keeps its rows and has room for what is left has room for all
abbrev pub invariant-loop-change : goal.invariant-loop-change
invariant-loop-change g l = record {
  same : CmpEqualImpliesEq (g.K.Ord.cmp) → (key : _) → held (g.K.Ord.cmp) l.none l.map key ≡ held (g.K.Ord.cmp) l.none l.fn.map key;
  room : (later : _) → KeepsRows (g.K.Ord.cmp) l.map later → HasRoomForAll (g.K.Ord.cmp) l.rest later → HasRoomForAll (g.K.Ord.cmp) l.changes.items later;
}

abbrev pub decreases-loop-change : goal.decreases-loop-change
decreases-loop-change g l = length l.rest
