use Rattle.mx_row_rules.proofs.FoundProofs.FoundLemmas.{defect_is, entry_is}
use Rattle.mx_row_rules.proofs.found.entries.entries_are_found_by_document.Goals as goal

pub returns : goal.returns
returns c = record { known = entry_is; defect = defect_is }
