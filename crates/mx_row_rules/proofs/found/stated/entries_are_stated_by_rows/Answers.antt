use Rattle.mx_row_rules.proofs.FoundProofs.StatedLemmas.{entry_stated}
use Rattle.mx_row_rules.proofs.found.stated.entries_are_stated_by_rows.Goals as goal

pub returns : goal.returns
returns c = entry_stated
