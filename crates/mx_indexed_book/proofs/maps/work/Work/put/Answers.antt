use Rattle.std.proofs.Common.{[], ◌∷◌, ◌++◌, false}
use Rattle.std.specs.List.{filter_map}
use Rattle.std.specs.Ordering.{nat_cmp}
use Rattle.std.specs.Cmp.Lexicographic.{slice_cmp}
use Rattle.mx_book.specs.commands.Act.{lines_of}
use Rattle.mx_book.specs.Defect.{is_rectified}
use Rattle.mx_indexed_book.specs.maps.Places.{names_cmp}
use Rattle.mx_indexed_book.specs.maps.Work.{airframe_done, airframe_task, component_done, component_task, keyed, line_defect, tasks_done}
use Rattle.mx_indexed_book.proofs.MapsProofs.WorkLemmas.{airframe_moves, component_moves, moves_all, rectified_moves}
use Rattle.mx_indexed_book.proofs.maps.work.Work.put.Goals as goal

pub returns : goal.returns
returns c book entry is_book shape new is are =
    let self = c.args.self.now in
    let changes = c.args.changes.now in
    let more = book ++ entry ∷ [] in
    record {
      airframes_are = moves_all names_cmp false (airframe_done book) (airframe_done more) self.airframes c.put_all.new.map changes.airframes.items (filter_map (keyed airframe_task) (tasks_done entry.act)) (c.put_all.ensures false) is.airframes_are (airframe_moves book entry) are.airframes_are;
      components_are = moves_all names_cmp false (component_done book) (component_done more) self.components c.put_all-2.new.map changes.components.items (filter_map (keyed component_task) (tasks_done entry.act)) (c.put_all-2.ensures false) is.components_are (component_moves book entry) are.components_are;
      rectified_are = moves_all (slice_cmp nat_cmp) false (is_rectified book) (is_rectified more) self.rectified c.put_all-3.new.map changes.rectified.items (filter_map line_defect (lines_of entry.act)) (c.put_all-3.ensures false) is.rectified_are (rectified_moves book entry) are.rectified_are;
    }
