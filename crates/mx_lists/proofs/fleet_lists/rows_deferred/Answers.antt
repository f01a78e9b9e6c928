use Rattle.mx_book.proofs.Gathering.{goes_on}
use Rattle.mx_lists.specs.Fleet.{deferred_row}
use Rattle.mx_lists.proofs.Gathering.{row_put}
use Rattle.mx_lists.proofs.fleet_lists.rows_deferred.Goals as goal

pub loop-defect-preserved : goal.loop-defect-preserved
loop-defect-preserved g c =
    goes_on c.loop-defect.invariant c.in_ok-days.ensures (λ book is.
    row_put (deferred_row book c.args.day) c.loop-defect.rest.now c.in-Some.later.now c.in-Some.defect.now _ c.loop-defect.rows.items _ _
    c.in-Some.ensures.cases.0 c.in_ok-push.ensures.items (c.deferred_of_defect.ensures book is))
