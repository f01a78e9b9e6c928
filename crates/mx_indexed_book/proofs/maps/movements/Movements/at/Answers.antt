use Rattle.std.proofs.Common.{◌∙◌}
use Rattle.mx_indexed_book.proofs.maps.movements.Movements.at.Goals as goal

pub returns : goal.returns
returns c book are = c.held.ensures ∙ are.placed_are (c.args.tail.now, c.args.place)
