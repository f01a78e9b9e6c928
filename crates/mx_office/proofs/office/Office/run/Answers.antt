use Rattle.std.proofs.Common.{rules}
use Rattle.mx_office.proofs.CallLemmas.{run_handed, run_in_doubt, run_without_room}
use Rattle.mx_office.proofs.office.Office.run.Goals as goal

pub returns-then-self : goal.returns-then-self
returns-then-self g c = rw c.new.ensures.items (run_in_doubt c.args.commands.now c.args.self.now c.if-self.true)

pub returns-in_default : goal.returns-in_default
returns-in_default g c = rw c.new-in_default.ensures.items (run_without_room c.args.commands.now c.args.self.now c.if-self.false)

pub returns : goal.returns
returns g c =
    let ran = c.run_by_rows-outcomes.ensures in
    let outcomes = c.run_by_rows-outcomes.result in
    run_handed c.args.commands.now outcomes.replies.items outcomes.stopped c.args.self.now _ c.if-self.false ran.hands_in ran.still ran.counted ran.done ran.cut (search rules) (search rules)
