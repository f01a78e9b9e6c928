use Rattle.std.proofs.Common.{ap, None}
use Rattle.std.specs.Ordering.{nat_cmp}
use Rattle.std.specs.Cmp.Lexicographic.{slice_cmp}
use Rattle.mx_indexed_book.specs.declared.maps.registers.RegisterChanges.{RegisterChanges}
use Rattle.mx_indexed_book.proofs.MapsProofs.MapLemmas.{moves}
use Rattle.mx_indexed_book.proofs.MapsProofs.NumberedLemmas.{serial_moves, tail_moves}
use Rattle.mx_indexed_book.proofs.MapsProofs.RegisterLemmas.{document_moves, defect_moves, extension_moves}
use Rattle.mx_indexed_book.proofs.maps.registers.Registers.put.Goals as goal

pub returns : goal.returns
returns c book entry is_book shape new is are = record {
  documents_are = moves (slice_cmp nat_cmp) None _ _ c.args.self.now.documents c.put.new.map _ _ (c.put.ensures.changed None) (ap (λ (r : RegisterChanges). r.document) is) (document_moves book entry new) are.documents_are;
  aircraft_are = moves (slice_cmp nat_cmp) None _ _ c.args.self.now.aircraft c.put-2.new.map _ _ (c.put-2.ensures.changed None) (ap (λ (r : RegisterChanges). r.aircraft) is) (tail_moves book entry new) are.aircraft_are;
  components_are = moves (slice_cmp nat_cmp) None _ _ c.args.self.now.components c.put-3.new.map _ _ (c.put-3.ensures.changed None) (ap (λ (r : RegisterChanges). r.component) is) (serial_moves book entry new) are.components_are;
  defects_are = moves (slice_cmp nat_cmp) None _ _ c.args.self.now.defects c.put-4.new.map _ _ (c.put-4.ensures.changed None) (ap (λ (r : RegisterChanges). r.defect) is) (defect_moves book entry new) are.defects_are;
  extensions_are = moves (slice_cmp nat_cmp) None _ _ c.args.self.now.extensions c.put-5.new.map _ _ (c.put-5.ensures.changed None) (ap (λ (r : RegisterChanges). r.extension) is) (extension_moves book entry new) are.extensions_are;
}
