use Rattle.mx_row_rules.proofs.FoundProofs.AnswerLemmas.{known_by_rows, unknown_by_rows}
use Rattle.mx_row_rules.proofs.found.known.commands_are_known_by_rows.Goals as goal

pub returns : goal.returns
returns c = record { known = known_by_rows; unknown = unknown_by_rows }
