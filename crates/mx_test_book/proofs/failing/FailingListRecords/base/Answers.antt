use Rattle.std.proofs.Common.{refl}
use Rattle.mx_test_book.proofs.FailingLemmas.{counted}
use Rattle.mx_test_book.proofs.failing.FailingListRecords.base.Goals as goal

pub returns-clause-answers : goal.returns-clause-answers
returns-clause-answers c = counted _ _ _ _ _ _ _ c.in_ok-count.ensures.asked refl c.base.ensures.answers c.answered.ensures
