use Rattle.std.proofs.Common.{false, None}
use Rattle.std.specs.Ordering.{nat_cmp}
use Rattle.std.specs.Cmp.Lexicographic.{slice_cmp}
use Rattle.std.proofs.lemmas.Map.Lookups.{exact_bytes, exact_pairs}
use Rattle.mx_indexed_book.specs.maps.Places.{names_cmp}
use Rattle.mx_indexed_book.proofs.MapsProofs.MapLemmas.{stays}
use Rattle.mx_indexed_book.proofs.maps.places.Places.make_room.Goals as goal

pub returns-clause-same : goal.returns-clause-same
returns-clause-same c book are =
    let exact = exact_pairs (slice_cmp nat_cmp) (slice_cmp nat_cmp) exact_bytes exact_bytes in
    record {
      fitted_are = stays (slice_cmp nat_cmp) None _ c.args.self.now.fitted c.make_room.new.map (c.make_room.ensures.same exact_bytes) are.fitted_are;
      taken_are = stays names_cmp false _ c.args.self.now.taken c.make_room-2.new.map (c.make_room-2.ensures.same exact) are.taken_are;
    }
