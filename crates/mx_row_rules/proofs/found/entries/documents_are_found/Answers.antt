use Rattle.mx_row_rules.proofs.FoundProofs.OpenDefectLemmas.{doc_found}
use Rattle.mx_row_rules.proofs.found.entries.documents_are_found.Goals as goal

pub returns : goal.returns
returns c = doc_found
