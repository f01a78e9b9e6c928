use Rattle.mx_book.proofs.GrowthLemmas.{IsBook-run}
use Rattle.mx_book.proofs.laws.runs_give_books.Goals as goal

pub returns : goal.returns
returns c = IsBook-run
