use Rattle.std.proofs.Common.{◌≡◌, length}
use Rattle.mx_indexed_book.specs.maps.Maps.{HasRoomForAll, changed_all, held}
use Rattle.mx_indexed_book.proofs.maps.maps.put_all.Given as goal

-- the changes that are left, over what the map has by now, are all changes over what it had
abbrev pub invariant-loop-change : goal.invariant-loop-change
invariant-loop-change g l = record {
  room : HasRoomForAll (g.K.Ord.cmp) l.rest l.map;
  same : (none : _) (key : _) → changed_all (g.K.Ord.cmp) l.rest key (held (g.K.Ord.cmp) none l.map key) ≡ changed_all (g.K.Ord.cmp) l.changes.items key (held (g.K.Ord.cmp) none l.fn.map key);
}

abbrev pub decreases-loop-change : goal.decreases-loop-change
decreases-loop-change g l = length l.rest
