use Rattle.std.proofs.Common.{◌∙◌, ok_or, ap, ap₂, rules}
use Rattle.mx_lookups.proofs.NumbersProofs.ReadLemmas.{told}
use Rattle.mx_row_questions.proofs.lists.listing.life.Goals as goal

pub returns : goal.returns
returns g c = record {
  looks_up = record {
    same_reference = search rules;
    reads = told _ _ _ _ _ _ (λ book b found. c.ok_or.ensures.value ∙ ap₂ ok_or found c.unknown_of.ensures) c.in_ok-life.ensures.looks_up.reads;
    any_rows = record { found = λ clean has. (_, c.in_ok-life.ensures.looks_up.any_rows.found clean has, c.ok_or.ensures.value ∙ ap (ok_or c.in_ok-life.life) c.unknown_of.ensures) };
    damage = search rules;
  };
}
