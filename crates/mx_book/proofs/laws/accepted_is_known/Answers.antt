use Rattle.mx_book.proofs.KnownLemmas.{judge_accepted, book_after_accepted}
use Rattle.mx_book.proofs.laws.accepted_is_known.Goals as goal

pub returns-clause-known : goal.returns-clause-known
returns-clause-known c = judge_accepted

pub returns-clause-unchanged : goal.returns-clause-unchanged
returns-clause-unchanged c = book_after_accepted
