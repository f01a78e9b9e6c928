use Rattle.mx_book.proofs.AcceptedLemmas.{run_accepts, run_has}
use Rattle.mx_book.proofs.laws.runs_append_the_accepted.Goals as goal

pub returns-clause-book : goal.returns-clause-book
returns-clause-book c = run_accepts

pub returns-clause-acknowledged : goal.returns-clause-acknowledged
returns-clause-acknowledged c = run_has
