use Rattle.std.proofs.Common.{Some, sym, subst, ap, ◌∙◌}
use Rattle.mx_book.specs.due.Due.{IsLife}
use Rattle.mx_book.specs.Life.{use_or_none}
use Rattle.mx_book.proofs.LifeLemmas.{life_bounded}
use Rattle.mx_plain_book.proofs.bases.life_reached.Goals as goal

pub returns-clause-bounded : goal.returns-clause-bounded
returns-clause-bounded c =
    subst IsLife (sym (c.life_or_none.ensures ∙ ap use_or_none c.life.ensures))
    (life_bounded c.args.entries.now c.args.item.now (Some c.number.result) c.requires.few c.requires.shaped)
