use Rattle.std.proofs.Common.{None}
use Rattle.std.specs.Ordering.{nat_cmp}
use Rattle.std.specs.Cmp.Lexicographic.{slice_cmp}
use Rattle.std.proofs.lemmas.Map.Lookups.{exact_bytes}
use Rattle.mx_indexed_book.proofs.MapsProofs.MapLemmas.{stays}
use Rattle.mx_indexed_book.proofs.maps.registers.Registers.make_room.Goals as goal

pub returns-clause-same : goal.returns-clause-same
returns-clause-same c book are = record {
  documents_are = stays (slice_cmp nat_cmp) None _ c.args.self.now.documents c.make_room-documents.new.map (c.make_room-documents.ensures.same exact_bytes) are.documents_are;
  aircraft_are = stays (slice_cmp nat_cmp) None _ c.args.self.now.aircraft c.make_room-aircraft.new.map (c.make_room-aircraft.ensures.same exact_bytes) are.aircraft_are;
  components_are = stays (slice_cmp nat_cmp) None _ c.args.self.now.components c.make_room-components.new.map (c.make_room-components.ensures.same exact_bytes) are.components_are;
  defects_are = stays (slice_cmp nat_cmp) None _ c.args.self.now.defects c.make_room-defects.new.map (c.make_room-defects.ensures.same exact_bytes) are.defects_are;
  extensions_are = stays (slice_cmp nat_cmp) None _ c.args.self.now.extensions c.make_room-extensions.new.map (c.make_room-extensions.ensures.same exact_bytes) are.extensions_are;
}
