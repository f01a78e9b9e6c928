use Rattle.mx_book.proofs.BaseLemmas.{accomplished-base}
use Rattle.mx_book.proofs.laws.accomplished_has_a_base.Goals as goal

pub returns : goal.returns
returns c = accomplished-base
