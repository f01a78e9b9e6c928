use Rattle.mx_row_rules.proofs.FoundProofs.FoundLemmas.{entries_counted, entries_numbered}
use Rattle.mx_row_rules.proofs.found.entries.entries_are_numbered.Goals as goal

pub returns : goal.returns
returns c = record { numbers = entries_numbered; count = entries_counted }
