use Rattle.std.proofs.Common.{ap}
use Rattle.std.specs.Ordering.{nat_cmp}
use Rattle.std.specs.Cmp.Lexicographic.{slice_cmp}
use Rattle.mx_indexed_book.specs.declared.maps.clocks.ClockChanges.{ClockChanges}
use Rattle.mx_indexed_book.proofs.MapsProofs.MapLemmas.{moves}
use Rattle.mx_indexed_book.proofs.MapsProofs.ClockLemmas.{airframe_moves, component_moves}
use Rattle.mx_indexed_book.proofs.maps.clocks.Clocks.put.Goals as goal

pub returns : goal.returns
returns c book entry is_book shape new is are = record {
  airframes_are = moves (slice_cmp nat_cmp) 0 _ _ c.args.self.now.airframes c.put.new.map _ _ (c.put.ensures.changed 0) (ap (λ (r : ClockChanges). r.airframe) is) (airframe_moves book entry is_book) are.airframes_are;
  components_are = moves (slice_cmp nat_cmp) 0 _ _ c.args.self.now.components c.put-2.new.map _ _ (c.put-2.ensures.changed 0) (ap (λ (r : ClockChanges). r.component) is) (component_moves book entry is_book) are.components_are;
}
