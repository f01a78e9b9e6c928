use Rattle.std.proofs.Common.{◌∙◌}
use Rattle.mx_indexed_book.proofs.MapsProofs.MapLemmas.{room_left, same_left}
use Rattle.mx_indexed_book.proofs.maps.maps.put_all.Goals as goal

pub loop-change-preserved : goal.loop-change-preserved
loop-change-preserved g c =
    let cmp = g.K.Ord.cmp in
    let rest = c.loop-change.rest.now in
    let later = c.in-Some.later.now in
    let change = c.in-Some.change.now in
    let old = c.loop-change.map in
    let new = c.put.new.map in
    record {
      room = room_left cmp rest later change old new c.in-Some.ensures.cases.0 c.put.ensures.keeps c.loop-change.invariant.room;
      same = λ none key. same_left cmp rest later change old new none key c.in-Some.ensures.cases.0 (c.put.ensures.changed none key) ∙ c.loop-change.invariant.same none key;
    }
