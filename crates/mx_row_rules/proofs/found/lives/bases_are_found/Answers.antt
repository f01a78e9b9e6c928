use Rattle.mx_book.proofs.BaseLemmas.{accomplished-base}
use Rattle.mx_row_rules.proofs.FoundProofs.BoundLemmas.{base_low}
use Rattle.mx_row_rules.proofs.FoundProofs.LifeLemmas.{base_is, no_base}
use Rattle.mx_row_rules.proofs.found.lives.bases_are_found.Goals as goal

pub returns : goal.returns
returns c = record {
  base = base_is;
  accomplished = λ book item id. accomplished-base book item id;
  bounded = λ book item id b. base_low book b item id;
  no_base = no_base;
}
