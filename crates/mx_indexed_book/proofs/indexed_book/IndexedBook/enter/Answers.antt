use Rattle.std.proofs.Common.{sym, ap, ◌∙◌, ◌+◌, subst, List}
use Rattle.mx_book.specs.commands.Act.{Entry}
use Rattle.mx_book.specs.Judge.{judge}
use Rattle.mx_indexed_book.specs.maps.Indexed.{AreIndexes}
use Rattle.mx_indexed_book.proofs.indexed_book.IndexedBook.enter.Goals as goal

pub invariant_of-self : goal.invariant_of-self
invariant_of-self c = c.make_room.ensures.same c.self.inside.book c.self.invariant

pub invariant_of-self-in-Ok-enter : goal.invariant_of-self-in-Ok-enter
invariant_of-self-in-Ok-enter c =
    let book = c.self.inside.book in
    let command = c.args.command in
    let changed = c.in-Ok.ensures book c.len.ensures.book c.self.invariant (ap (λ n. n + 1) c.len.ensures.len) in
    let is_new = ap (λ b. judge b command) c.self.view_is ∙ c.requires in
    subst (λ (b : List Entry). AreIndexes b c.put.new.self) (sym c.in-Ok-enter.ensures.entered)
    (c.put.ensures book command c.len.ensures.book c.doc.ensures.shape is_new changed (c.make_room.ensures.same book c.self.invariant))

pub invariant_of-self-in-Err : goal.invariant_of-self-in-Err
invariant_of-self-in-Err c =
    subst (λ (b : List Entry). AreIndexes b c.make_room.new.self) (sym c.in-Err.ensures.unchanged)
    (c.make_room.ensures.same c.self.inside.book c.self.invariant)
