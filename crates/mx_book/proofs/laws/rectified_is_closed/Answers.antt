use Rattle.mx_book.proofs.DefectLemmas.{released_leaves, new_rectifies_once, rectified_stays}
use Rattle.mx_book.proofs.laws.rectified_is_closed.Goals as goal

pub returns-clause-left : goal.returns-clause-left
returns-clause-left c = released_leaves

pub returns-clause-once : goal.returns-clause-once
returns-clause-once c = new_rectifies_once

pub returns-clause-stays : goal.returns-clause-stays
returns-clause-stays c = rectified_stays
