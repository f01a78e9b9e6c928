use Rattle.std.proofs.Common.{sym, subst, None}
use Rattle.mx_book.specs.Book.{IsBook}
use Rattle.mx_book.proofs.LifeLemmas.{life_in_bounds}
use Rattle.mx_plain_book.proofs.plain.Plain.life_now.Goals as goal

pub returns-clause-bounded : goal.returns-clause-bounded
returns-clause-bounded c =
    life_in_bounds c.as_slice.result.now c.args.item.now None c.life.result
    (subst IsBook (sym c.as_slice.ensures.entries) c.as_slice.ensures.book) c.life.ensures
