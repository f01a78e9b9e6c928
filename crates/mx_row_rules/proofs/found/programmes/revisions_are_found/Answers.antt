use Rattle.mx_row_rules.proofs.FoundProofs.ProgrammeLemmas.{revision_is, revision_low}
use Rattle.mx_row_rules.proofs.found.programmes.revisions_are_found.Goals as goal

pub returns : goal.returns
returns c = record { revision = λ book kind. revision_is kind book; bounded = λ book kind b. revision_low kind book b }
