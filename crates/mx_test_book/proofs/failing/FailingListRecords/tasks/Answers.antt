use Rattle.std.proofs.Common.{refl}
use Rattle.mx_test_book.proofs.FailingLemmas.{counted_with}
use Rattle.mx_test_book.proofs.failing.FailingListRecords.tasks.Goals as goal

pub returns-in-Ok-clause-answers : goal.returns-in-Ok-clause-answers
returns-in-Ok-clause-answers c = counted_with _ _ _ _ _ _ c.in_ok-count_or_stop.ensures.asked refl c.in-Ok.ensures.answers
