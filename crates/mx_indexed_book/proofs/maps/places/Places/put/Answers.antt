use Rattle.std.proofs.Common.{ap, false, None}
use Rattle.std.specs.Ordering.{nat_cmp}
use Rattle.std.specs.Cmp.Lexicographic.{slice_cmp}
use Rattle.mx_indexed_book.specs.maps.Places.{names_cmp}
use Rattle.mx_indexed_book.specs.declared.maps.places.PlaceChanges.{PlaceChanges}
use Rattle.mx_indexed_book.proofs.MapsProofs.MapLemmas.{moves}
use Rattle.mx_indexed_book.proofs.MapsProofs.PlaceLemmas.{component_moves, place_moves}
use Rattle.mx_indexed_book.proofs.maps.places.Places.put.Goals as goal

pub returns : goal.returns
returns c book entry is_book shape new is are = record {
  fitted_are = moves (slice_cmp nat_cmp) None _ _ c.args.self.now.fitted c.put.new.map _ _ (c.put.ensures.changed None) (ap (λ (r : PlaceChanges). r.component) is) (component_moves book entry new) are.fitted_are;
  taken_are = moves names_cmp false _ _ c.args.self.now.taken c.put-2.new.map _ _ (c.put-2.ensures.changed false) (ap (λ (r : PlaceChanges). r.place) is) (place_moves book entry is_book) are.taken_are;
}
