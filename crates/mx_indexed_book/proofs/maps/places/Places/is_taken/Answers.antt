use Rattle.std.proofs.Common.{◌∙◌}
use Rattle.mx_indexed_book.proofs.maps.places.Places.is_taken.Goals as goal

pub returns : goal.returns
returns c book are = c.held.ensures ∙ are.taken_are (c.args.tail.now, c.args.position.now)
