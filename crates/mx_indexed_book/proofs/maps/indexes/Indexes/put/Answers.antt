use Rattle.std.proofs.Common.{None}
use Rattle.std.specs.Ordering.{nat_cmp}
use Rattle.std.specs.Cmp.Lexicographic.{slice_cmp}
use Rattle.mx_indexed_book.specs.maps.Places.{names_cmp}
use Rattle.mx_indexed_book.proofs.MapsProofs.MapLemmas.{moves}
use Rattle.mx_indexed_book.proofs.MapsProofs.PositionLemmas.{part_moves}
use Rattle.mx_indexed_book.proofs.MapsProofs.ProgrammeLemmas.{programme_moves}
use Rattle.mx_indexed_book.proofs.MapsProofs.WorkLemmas.{moves_all}
use Rattle.mx_indexed_book.proofs.maps.indexes.Indexes.put.Goals as goal

pub returns : goal.returns
returns c book entry is_book shape new is are = record {
  registers_are = c.put.ensures book entry is_book shape new is.registers_are are.registers_are;
  places_are = c.put-2.ensures book entry is_book shape new is.places_are are.places_are;
  movements_are = c.put-3.ensures book entry is_book shape new is.movements_are are.movements_are;
  clocks_are = c.put-4.ensures book entry is_book shape new is.clocks_are are.clocks_are;
  parts_are = moves_all names_cmp None _ _ c.args.self.now.parts c.put_all.new.map _ _ (c.put_all.ensures None) is.parts_are (part_moves book entry shape new) are.parts_are;
  programmes_are = moves (slice_cmp nat_cmp) None _ _ c.args.self.now.programmes c.put-5.new.map _ _ (c.put-5.ensures.changed None) is.programme_is (programme_moves book entry) are.programmes_are;
  work_is = c.put-6.ensures book entry is_book shape new is.work_is are.work_is;
  lives_are = c.put-7.ensures book entry is_book shape new is.lives_are are.lives_are;
  counts_are = is.counts_are;
}
