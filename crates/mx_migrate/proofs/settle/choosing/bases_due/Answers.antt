use Rattle.std.proofs.Common.{Some, inr, refl}
use Rattle.sqlite.specs.Held.{state}
use Rattle.mx_registers.specs.points.Points.{moving}
use Rattle.mx_migrate.proofs.SettleProofs.KeptChoices.{bases_chosen, bases_stop, kept_unfound}
use Rattle.mx_migrate.proofs.settle.choosing.bases_due.Goals as goal

pub returns-in-Ok-made-clause-chooses : goal.returns-in-Ok-made-clause-chooses
returns-in-Ok-made-clause-chooses g c begun =
    let kept = c.in-Ok.kept in
    bases_chosen c.args.known.now (Some kept) (state g.S.Store c.args.tx.now.conn.now) (state g.S.Store c.kept_known.new.tx.conn.now) kept refl (c.in-Ok.ensures.finds begun) c.args.mark c.in-Ok-made.due c.in-Ok-made.ensures

pub returns-in-Err-made-clause-chooses : goal.returns-in-Err-made-clause-chooses
returns-in-Err-made-clause-chooses g c begun =
    let kept = c.in-Ok.kept in
    bases_stop c.args.known.now (Some kept) (state g.S.Store c.args.tx.now.conn.now) (state g.S.Store c.kept_known.new.tx.conn.now) kept refl (c.in-Ok.ensures.finds begun) c.args.mark

pub returns-in-Err-clause-chooses : goal.returns-in-Err-clause-chooses
returns-in-Err-clause-chooses g c begun =
    kept_unfound c.args.known.now c.kept_known.new.known (state g.S.Store c.args.tx.now.conn.now) (state g.S.Store c.kept_known.new.tx.conn.now) (moving 4 c.args.mark) c.in-Err.fault (c.args.mark, inr refl) c.in-Err.ensures.taken (c.in-Err.ensures.finds begun)
