use Rattle.std.proofs.Common.{None}
use Rattle.std.specs.Ordering.{nat_cmp}
use Rattle.std.specs.Cmp.Lexicographic.{slice_cmp}
use Rattle.std.proofs.lemmas.Map.Lookups.{exact_bytes}
use Rattle.mx_indexed_book.proofs.MapsProofs.MapLemmas.{stays}
use Rattle.mx_indexed_book.proofs.maps.lives.Lives.make_room.Goals as goal

pub returns-clause-same : goal.returns-clause-same
returns-clause-same c book are = record {
  airframes_are = stays (slice_cmp nat_cmp) None _ c.args.self.now.airframes c.make_room.new.map (c.make_room.ensures.same exact_bytes) are.airframes_are;
  components_are = stays (slice_cmp nat_cmp) None _ c.args.self.now.components c.make_room_for_all.new.map (c.make_room_for_all.ensures.same exact_bytes) are.components_are;
}
