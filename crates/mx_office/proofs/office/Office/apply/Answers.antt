use Rattle.std.proofs.Common.{rules, ◌∷◌, [], subst, sym}
use Rattle.sqlite.specs.Held.{state}
use Rattle.mx_office.specs.Calls.{replies_in, stop_in, HandsIn}
use Rattle.mx_office.specs.Office.{office_state}
use Rattle.mx_office.proofs.AppliedLemmas.{entered}
use Rattle.mx_office.proofs.CallLemmas.{one_handed, run_handed}
use Rattle.mx_office.proofs.HandLemmas.{handed_one}
use Rattle.mx_office.proofs.office.Office.apply.Goals as goal

pub returns-clause-ran : goal.returns-clause-ran
returns-clause-ran g c =
    let command = c.args.command.now in
    let old = office_state c.args.self.now in
    let new = state g.S.Store c.apply.new.conn in
    let answered = c.call_answer-answered.result in
    run_handed (command ∷ []) (replies_in answered) (stop_in answered) c.args.self.now _ c.if-self.false
    (subst (λ r. HandsIn (command ∷ []) (replies_in r) (stop_in r) old new) (sym c.call_answer-answered.ensures) (handed_one command old new c.apply.result (record { applies = c.apply.ensures.applies; survives = c.apply.ensures.survives; damage = c.apply.ensures.damage })))
    (one_handed answered) (search rules) (search rules) (search rules) (search rules) (search rules)

pub returns-clause-entered : goal.returns-clause-entered
returns-clause-entered g c clean =
    rw c.call_answer-answered.ensures (entered c.args.command.now (office_state c.args.self.now) (state g.S.Store c.apply.new.conn) c.apply.result (record { applies = c.apply.ensures.applies; survives = c.apply.ensures.survives; damage = c.apply.ensures.damage }) clean)
