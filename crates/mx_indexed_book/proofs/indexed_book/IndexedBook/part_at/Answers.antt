use Rattle.std.proofs.Common.{ap, ◌∙◌}
use Rattle.mx_book.specs.Register.{part_at}
use Rattle.mx_indexed_book.proofs.indexed_book.IndexedBook.part_at.Goals as goal

pub returns : goal.returns
returns c =
    let tail = c.args.tail.now in
    let position = c.args.position.now in
    c.held.ensures ∙ c.self.invariant.parts_are (tail, position) ∙ ap (λ b. part_at b tail position) c.self.view_is
