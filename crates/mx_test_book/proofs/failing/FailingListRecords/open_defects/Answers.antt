use Rattle.std.proofs.Common.{refl}
use Rattle.mx_test_book.proofs.FailingLemmas.{counted_with}
use Rattle.mx_test_book.proofs.failing.FailingListRecords.open_defects.Goals as goal

pub returns-in-Ok : goal.returns-in-Ok
returns-in-Ok c = counted_with _ _ _ _ _ _ c.in_ok-count_or_stop.ensures.asked refl c.in-Ok.ensures
