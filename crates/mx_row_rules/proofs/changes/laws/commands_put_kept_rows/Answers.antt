use Rattle.mx_row_rules.proofs.ChangesProofs.TouchLemmas.{spans_are_put, totals_are_put}
use Rattle.mx_row_rules.proofs.changes.laws.commands_put_kept_rows.Goals as goal

pub returns-clause-spans : goal.returns-clause-spans
returns-clause-spans c = spans_are_put

pub returns-clause-totals : goal.returns-clause-totals
returns-clause-totals c = totals_are_put
