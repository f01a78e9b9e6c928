use Rattle.mx_row_rules.proofs.FoundProofs.OpenLemmas.{taken_by_none, taken_is}
use Rattle.mx_row_rules.proofs.found.spans.taken_positions_are_found.Goals as goal

pub returns : goal.returns
returns c = record { taken = λ book tail position n b h. taken_is tail position n book b h; missed = taken_by_none }
