use Rattle.mx_registers.proofs.PointsProofs.OneBook.{one_book_at}
use Rattle.mx_registers.proofs.points.laws.points_decide_the_book.Goals as goal

pub returns : goal.returns
returns c = one_book_at
