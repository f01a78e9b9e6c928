use Rattle.mx_book.proofs.GrowthLemmas.{book_run-append, replies-append}
use Rattle.mx_book.proofs.laws.runs_join.Goals as goal

pub returns-clause-book : goal.returns-clause-book
returns-clause-book c = book_run-append

pub returns-clause-replies : goal.returns-clause-replies
returns-clause-replies c = replies-append
