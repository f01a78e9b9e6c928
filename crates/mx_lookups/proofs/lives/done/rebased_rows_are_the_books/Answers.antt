use Rattle.mx_lookups.proofs.LivesProofs.RebasedRows.{books_exactly, books_whole, others_stay}
use Rattle.mx_lookups.proofs.lives.done.rebased_rows_are_the_books.Goals as goal

pub returns-clause-exactly : goal.returns-clause-exactly
returns-clause-exactly c = books_exactly

pub returns-clause-others : goal.returns-clause-others
returns-clause-others c number id old new made = others_stay number id old new made

pub returns-clause-whole : goal.returns-clause-whole
returns-clause-whole c = books_whole
