use Rattle.std.proofs.Common.{refl}
use Rattle.mx_plain_book.proofs.book_lists.due_of_item.Goals as goal

pub returns : goal.returns
returns c = c.in-Ok.ensures.exact (record { book = c.args.book }) c.args.book.now refl refl tt
