use Rattle.mx_row_rules.proofs.FoundProofs.OpenDefectLemmas.{all_open_found, all_there}
use Rattle.mx_row_rules.proofs.found.defects.all_open_defects_are_found.Goals as goal

pub returns : goal.returns
returns c = record { «open» = all_open_found; there = all_there }
