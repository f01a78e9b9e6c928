use Rattle.std.proofs.Common.{refl}
use Rattle.mx_plain_book.proofs.plain.Plain.judge.Goals as goal

pub returns : goal.returns
returns c = c.in-Ok.ensures.exact (record { book = c.args.self.now.book }) c.args.self.now.book.now refl refl tt
