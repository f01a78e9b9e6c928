use Rattle.std.proofs.Common.{Ok, refl, subst}
use Rattle.sqlite.specs.Held.{state}
use Rattle.mx_layout.specs.kept.Cells.{kept_component}
use Rattle.mx_migrate.specs.settle.Choices.{FindsNext}
use Rattle.mx_migrate.proofs.SettleProofs.ChoiceLemmas.{component_chosen, component_unread, totals_chosen}
use Rattle.mx_migrate.proofs.settle.choosing.component_due.Goals as goal

pub returns-in-Ok-Some-clause-chooses : goal.returns-in-Ok-Some-clause-chooses
returns-in-Ok-Some-clause-chooses g c begun =
    let old = state g.S.Store c.args.tx.now.conn.now in
    let new = state g.S.Store c.next_component.new.tx.conn.now in
    component_chosen c.args.mark old new begun c.in-Ok-Some.component (record { mark = c.args.mark; component = c.in-Ok-Some.component }) refl refl
    (subst (λ o. FindsNext kept_component c.args.mark old new (Ok o)) c.in-Ok-Some.field-0-is c.in-Ok-Some.ensures.finds)

pub returns-in-Ok-None-clause-chooses : goal.returns-in-Ok-None-clause-chooses
returns-in-Ok-None-clause-chooses g c begun =
    let old = state g.S.Store c.args.tx.now.conn.now in
    let new = state g.S.Store c.next_component.new.tx.conn.now in
    totals_chosen c.args.mark old new begun (record { mark = c.args.mark }) refl
    (subst (λ o. FindsNext kept_component c.args.mark old new (Ok o)) c.in-Ok-None.field-0-is c.in-Ok-None.ensures.finds)

pub returns-in-Err-clause-chooses : goal.returns-in-Err-clause-chooses
returns-in-Err-clause-chooses g c begun =
    component_unread c.args.mark (state g.S.Store c.args.tx.now.conn.now) (state g.S.Store c.next_component.new.tx.conn.now) begun c.in-Err.unread c.in-Err.ensures.finds
