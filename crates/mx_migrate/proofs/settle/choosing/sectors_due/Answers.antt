use Rattle.std.proofs.Common.{Ok, refl, subst}
use Rattle.sqlite.specs.Held.{state}
use Rattle.mx_migrate.specs.settle.Choices.{FindsLeft}
use Rattle.mx_migrate.proofs.SettleProofs.ChoiceLemmas.{sectors_chosen, sectors_unread, spans_chosen}
use Rattle.mx_migrate.proofs.settle.choosing.sectors_due.Goals as goal

pub returns-in-Ok-true-clause-chooses : goal.returns-in-Ok-true-clause-chooses
returns-in-Ok-true-clause-chooses g c begun =
    let old = state g.S.Store c.args.tx.now.conn.now in
    let new = state g.S.Store c.is_sector_left.new.tx.conn.now in
    sectors_chosen c.args.mark old new begun (record { mark = c.args.mark }) refl (subst (λ b. FindsLeft old new (Ok b)) c.in-Ok-true.field-0-test c.in-Ok-true.ensures.finds)

pub returns-in-Ok-false-clause-chooses : goal.returns-in-Ok-false-clause-chooses
returns-in-Ok-false-clause-chooses g c begun =
    let old = state g.S.Store c.args.tx.now.conn.now in
    let new = state g.S.Store c.is_sector_left.new.tx.conn.now in
    spans_chosen c.args.mark old new begun (record { mark = c.args.mark }) refl (subst (λ b. FindsLeft old new (Ok b)) c.in-Ok-false.field-0-test c.in-Ok-false.ensures.finds)

pub returns-in-Err-clause-chooses : goal.returns-in-Err-clause-chooses
returns-in-Err-clause-chooses g c begun =
    sectors_unread c.args.mark (state g.S.Store c.args.tx.now.conn.now) (state g.S.Store c.is_sector_left.new.tx.conn.now) begun c.in-Err.fault c.in-Err.ensures.finds
