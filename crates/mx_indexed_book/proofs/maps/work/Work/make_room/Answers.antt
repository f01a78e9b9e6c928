use Rattle.std.proofs.Common.{false}
use Rattle.std.specs.Ordering.{nat_cmp}
use Rattle.std.specs.Cmp.Lexicographic.{slice_cmp}
use Rattle.std.proofs.lemmas.Map.Lookups.{exact_bytes, exact_pairs}
use Rattle.mx_book.specs.Defect.{is_rectified}
use Rattle.mx_indexed_book.specs.maps.Places.{names_cmp}
use Rattle.mx_indexed_book.specs.maps.Work.{airframe_done, component_done}
use Rattle.mx_indexed_book.proofs.MapsProofs.MapLemmas.{stays}
use Rattle.mx_indexed_book.proofs.maps.work.Work.make_room.Goals as goal

pub returns-clause-same : goal.returns-clause-same
returns-clause-same c book are =
    let self = c.args.self.now in
    let exact = exact_pairs (slice_cmp nat_cmp) (slice_cmp nat_cmp) exact_bytes exact_bytes in
    record {
      airframes_are = stays names_cmp false (airframe_done book) self.airframes c.make_room_for_all-airframes.new.map (c.make_room_for_all-airframes.ensures.same exact) are.airframes_are;
      components_are = stays names_cmp false (component_done book) self.components c.make_room_for_all-components.new.map (c.make_room_for_all-components.ensures.same exact) are.components_are;
      rectified_are = stays (slice_cmp nat_cmp) false (is_rectified book) self.rectified c.make_room_for_all-rectified.new.map (c.make_room_for_all-rectified.ensures.same exact_bytes) are.rectified_are;
    }
