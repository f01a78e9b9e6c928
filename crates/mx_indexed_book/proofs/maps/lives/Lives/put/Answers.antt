use Rattle.std.proofs.Common.{None}
use Rattle.std.specs.Ordering.{nat_cmp}
use Rattle.std.specs.Cmp.Lexicographic.{slice_cmp}
use Rattle.mx_indexed_book.proofs.MapsProofs.MapLemmas.{moves}
use Rattle.mx_indexed_book.proofs.MapsProofs.LifeLemmas.{airframe_moves, lead_moves}
use Rattle.mx_indexed_book.proofs.MapsProofs.WorkLemmas.{moves_all}
use Rattle.mx_indexed_book.proofs.maps.lives.Lives.put.Goals as goal

pub returns : goal.returns
returns c book entry is_book shape new is are = record {
  airframes_are = moves (slice_cmp nat_cmp) None _ _ c.args.self.now.airframes c.put.new.map _ _ (c.put.ensures.changed None) is.airframe_is (airframe_moves book entry is_book shape new) are.airframes_are;
  components_are = moves_all (slice_cmp nat_cmp) None _ _ c.args.self.now.components c.put_all.new.map _ _ (c.put_all.ensures None) is.components_are (lead_moves book entry is_book shape new) are.components_are;
}
