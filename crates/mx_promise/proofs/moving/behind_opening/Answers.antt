use Rattle.std.proofs.Common.{None, Some, subst, sym}
use Rattle.sqlite.specs.Held.{state}
use Rattle.mx_layout.specs.Crash.{Leaves}
use Rattle.mx_office.specs.Office.{office_state}
use Rattle.mx_promise.specs.Moved.{StandsMoving}
use Rattle.mx_promise.proofs.OwnLemmas.{crash_on}
use Rattle.mx_promise.proofs.moving.behind_opening.Goals as goal

pub returns-in-Ok : goal.returns-in-Ok
returns-in-Ok g c own at book rests =
    subst (λ h. Leaves (state g.S.Store h) (StandsMoving own at book)) (sym c.close.ensures)
    (crash_on g.S.Store c.args.conn (office_state c.in-Ok.office) own at book rests c.in-Ok.ensures.changes None c.in-Ok.ensures.moves)

pub returns-in-Err : goal.returns-in-Err
returns-in-Err g c own at book rests = crash_on g.S.Store c.args.conn (state g.S.Store c.in-Err.conn) own at book rests c.in-Err.ensures.changes (Some _) c.in-Err.ensures.moves
