use Rattle.mx_row_rules.proofs.FoundProofs.OpenLemmas.{fitted_nowhere, fitted_position, fitted_tail, fitted_there}
use Rattle.mx_row_rules.proofs.found.spans.fitted_components_are_found.Goals as goal

pub returns : goal.returns
returns c = record {
  tail = λ book serial n b h. fitted_tail book b serial n h;
  there = λ book serial n b h. fitted_there book b serial n h;
  position = λ book serial n b h. fitted_position book b serial n h;
  nowhere = λ book serial b h. fitted_nowhere book b serial h;
}
