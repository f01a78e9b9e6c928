use Rattle.std.proofs.Common.{ap, None}
use Rattle.std.specs.Ordering.{nat_cmp}
use Rattle.std.specs.Cmp.Lexicographic.{slice_cmp}
use Rattle.mx_indexed_book.specs.maps.Movements.{place_cmp}
use Rattle.mx_indexed_book.specs.declared.maps.movements.MovementChanges.{MovementChanges}
use Rattle.mx_indexed_book.proofs.MapsProofs.MapLemmas.{moves}
use Rattle.mx_indexed_book.proofs.MapsProofs.MovementLemmas.{count_moves, placed_moves}
use Rattle.mx_indexed_book.proofs.maps.movements.Movements.put.Goals as goal

pub returns : goal.returns
returns c book entry is_book shape new is are = record {
  counts_are = moves (slice_cmp nat_cmp) 0 _ _ c.args.self.now.counts c.put.new.map _ _ (c.put.ensures.changed 0) (ap (λ (r : MovementChanges). r.count) is) (count_moves book entry) are.counts_are;
  placed_are = moves place_cmp None _ _ c.args.self.now.placed c.put-2.new.map _ _ (c.put-2.ensures.changed None) (ap (λ (r : MovementChanges). r.added) is) (placed_moves book entry) are.placed_are;
}
