use Rattle.std.proofs.Common.{None}
use Rattle.std.specs.Ordering.{nat_cmp}
use Rattle.std.specs.Cmp.Lexicographic.{slice_cmp}
use Rattle.std.proofs.lemmas.Map.Lookups.{exact_bytes, exact_pairs}
use Rattle.mx_indexed_book.specs.maps.Places.{names_cmp}
use Rattle.mx_indexed_book.proofs.MapsProofs.MapLemmas.{stays}
use Rattle.mx_indexed_book.proofs.maps.indexes.Indexes.make_room.Goals as goal

pub returns-clause-same : goal.returns-clause-same
returns-clause-same c book are =
    let exact = exact_pairs (slice_cmp nat_cmp) (slice_cmp nat_cmp) exact_bytes exact_bytes in
    record {
      registers_are = c.make_room-registers.ensures.same book are.registers_are;
      places_are = c.make_room-places.ensures.same book are.places_are;
      movements_are = c.make_room-movements.ensures.same book are.movements_are;
      clocks_are = c.make_room-clocks.ensures.same book are.clocks_are;
      parts_are = stays names_cmp None _ c.args.self.now.parts c.make_room_for_all-parts.new.map (c.make_room_for_all-parts.ensures.same exact) are.parts_are;
      programmes_are = stays (slice_cmp nat_cmp) None _ c.args.self.now.programmes c.make_room-programmes.new.map (c.make_room-programmes.ensures.same exact_bytes) are.programmes_are;
      work_is = c.make_room-work.ensures.same book are.work_is;
      lives_are = c.make_room-lives.ensures.same book are.lives_are;
      counts_are = are.counts_are;
    }
