use Rattle.std.proofs.Common.{refl}
use Rattle.mx_test_book.proofs.FailingLemmas.{counted}
use Rattle.mx_test_book.proofs.failing.FailingRecords.earliest_takeoff.Goals as goal

pub returns : goal.returns
returns c = counted _ _ _ _ _ _ _ c.in_ok-count.ensures.asked refl c.earliest_takeoff.ensures c.answered.ensures
