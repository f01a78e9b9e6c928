use Rattle.std.proofs.Common.{refl}
use Rattle.mx_indexed_book.proofs.indexed.judge.Goals as goal

pub returns : goal.returns
returns c = c.in-Ok.ensures.exact (record { book = c.args.book }) c.args.book.now refl refl tt
