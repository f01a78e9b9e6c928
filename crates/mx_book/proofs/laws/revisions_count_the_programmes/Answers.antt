use Rattle.mx_book.proofs.RevisionLemmas.{in_force_counts, next_counts}
use Rattle.mx_book.proofs.laws.revisions_count_the_programmes.Goals as goal

pub returns-clause-in_force : goal.returns-clause-in_force
returns-clause-in_force c = in_force_counts

pub returns-clause-next : goal.returns-clause-next
returns-clause-next c = next_counts
