use Rattle.std.proofs.Common.{None}
use Rattle.std.specs.Ordering.{nat_cmp}
use Rattle.std.specs.Cmp.Lexicographic.{slice_cmp}
use Rattle.std.proofs.lemmas.Map.Lookups.{exact_bytes, exact_pairs, exact_unsigned}
use Rattle.mx_indexed_book.specs.maps.Movements.{place_cmp}
use Rattle.mx_indexed_book.proofs.MapsProofs.MapLemmas.{stays}
use Rattle.mx_indexed_book.proofs.maps.movements.Movements.make_room.Goals as goal

pub returns-clause-same : goal.returns-clause-same
returns-clause-same c book are =
    let exact = exact_pairs (slice_cmp nat_cmp) nat_cmp exact_bytes exact_unsigned in
    record {
      counts_are = stays (slice_cmp nat_cmp) 0 _ c.args.self.now.counts c.make_room.new.map (c.make_room.ensures.same exact_bytes) are.counts_are;
      placed_are = stays place_cmp None _ c.args.self.now.placed c.make_room-2.new.map (c.make_room-2.ensures.same exact) are.placed_are;
    }
