use Rattle.std.proofs.Common.{sym, subst, ap, ◌∙◌, Some}
use Rattle.mx_book.specs.due.Due.{IsLife}
use Rattle.mx_book.specs.Book.{IsBook}
use Rattle.mx_book.specs.Life.{opening_in}
use Rattle.mx_book.proofs.LifeLemmas.{life_bounded}
use Rattle.mx_indexed_book.proofs.MomentsProofs.FlownLemmas.{lives_exact}
use Rattle.mx_indexed_book.proofs.moments.lives.life_at.Goals as goal

pub returns-in-Some-clause-life : goal.returns-in-Some-clause-life
returns-in-Some-clause-life c =
    c.life_at.ensures
    ∙ lives_exact c.args.book.now c.args.moments.now c.args.number c.args.item.now (Some c.args.moment) c.in-Some.opening (subst IsBook c.plain.ensures c.len.ensures.book) c.requires.moments c.requires.item
    (sym (c.opening_use.ensures ∙ ap opening_in c.found_of.ensures) ∙ c.in-Some.is)

pub returns-in-Some-clause-bounded : goal.returns-in-Some-clause-bounded
returns-in-Some-clause-bounded c =
    let b = subst IsBook c.plain.ensures c.len.ensures.book in
    subst IsLife (sym (returns-in-Some-clause-life c)) (life_bounded c.args.book.now c.args.item.now (Some c.args.moment) b.few b.shaped)
