use Rattle.mx_row_rules.proofs.FoundProofs.OpenDefectLemmas.{entries_there, none_open, open_found}
use Rattle.mx_row_rules.proofs.found.defects.open_defects_are_found.Goals as goal

pub returns : goal.returns
returns c = record { «open» = open_found; there = λ book n b. entries_there book n; missed = none_open }
