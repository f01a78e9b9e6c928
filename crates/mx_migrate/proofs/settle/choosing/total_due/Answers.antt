use Rattle.std.proofs.Common.{Ok, Some, inl, refl, sym, subst}
use Rattle.sqlite.specs.Held.{state}
use Rattle.mx_registers.specs.points.Points.{moving}
use Rattle.mx_migrate.specs.settle.Choices.{Chooses}
use Rattle.mx_migrate.proofs.SettleProofs.KeptChoices.{kept_unfound, total_chosen}
use Rattle.mx_migrate.proofs.settle.choosing.total_due.Goals as goal

pub returns-in-Ok-clause-chooses : goal.returns-in-Ok-clause-chooses
returns-in-Ok-clause-chooses g c begun =
    let old = state g.S.Store c.args.tx.now.conn.now in
    let new = state g.S.Store c.kept_known.new.tx.conn.now in
    let kept = c.in-Ok.kept in
    subst (λ due. Chooses (moving 3 c.args.mark) c.args.known.now (Some kept) old new (Ok (Some due))) (sym c.total_by-due.ensures)
    (total_chosen c.args.known.now (Some kept) old new kept refl (c.in-Ok.ensures.finds begun) c.args.mark)

pub returns-in-Err-clause-chooses : goal.returns-in-Err-clause-chooses
returns-in-Err-clause-chooses g c begun =
    kept_unfound c.args.known.now c.kept_known.new.known (state g.S.Store c.args.tx.now.conn.now) (state g.S.Store c.kept_known.new.tx.conn.now) (moving 3 c.args.mark) c.in-Err.fault (c.args.mark, inl refl) c.in-Err.ensures.taken (c.in-Err.ensures.finds begun)
