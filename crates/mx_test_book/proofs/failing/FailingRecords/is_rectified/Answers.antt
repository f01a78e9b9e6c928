use Rattle.std.proofs.Common.{refl}
use Rattle.mx_test_book.proofs.FailingLemmas.{counted}
use Rattle.mx_test_book.proofs.failing.FailingRecords.is_rectified.Goals as goal

pub returns : goal.returns
returns c = counted _ _ _ _ _ _ _ c.in_ok-count.ensures.asked refl c.is_rectified.ensures c.answered.ensures
