use Rattle.mx_row_rules.proofs.FoundProofs.DeferralLemmas.{defect_found, defect_there, no_defect}
use Rattle.mx_row_rules.proofs.found.defects.defects_are_found.Goals as goal

pub returns : goal.returns
returns c = record { found = λ book doc n b h. defect_found book b doc n h; there = defect_there; missed = no_defect }
