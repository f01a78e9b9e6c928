use Rattle.mx_row_rules.proofs.FoundProofs.AnswerLemmas.{fitting_by_spans, removal_by_spans}
use Rattle.mx_row_rules.proofs.found.known.moves_are_known_by_spans.Goals as goal

pub returns : goal.returns
returns c = record { fitting = fitting_by_spans; removal = removal_by_spans }
