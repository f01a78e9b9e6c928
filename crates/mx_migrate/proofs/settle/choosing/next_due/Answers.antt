use Rattle.std.proofs.Common.{rules, ◌≡◌, refl, subst}
use Rattle.sqlite.specs.Held.{state}
use Rattle.mx_migrate.specs.settle.Choices.{Chooses}
use Rattle.mx_migrate.proofs.SettleProofs.ChoiceLemmas.{chooses_after}
use Rattle.mx_migrate.proofs.settle.choosing.next_due.Goals as goal

pub returns-clause-chooses : goal.returns-clause-chooses
returns-clause-chooses g c =
    let old = c.args.conn.now in
    let last = c.due_at.new.tx.conn.now in
    let end = c.drop-tx.new.self.0 in
    let same : end ≡ c.conn-1.given.0 = search rules in
    let inside = rw c.transaction-tx.ensures.begun at (c.due_at.ensures.chooses) in
    subst (λ h. Chooses c.args.at c.args.known.now c.due_at.new.known (state g.S.Store old) (state g.S.Store h) c.due_at.result) same
    (chooses_after g.S.Store c.args.at c.args.known.now c.due_at.new.known old last end c.due_at.result c.drop-tx.ensures.survives (inside refl))
