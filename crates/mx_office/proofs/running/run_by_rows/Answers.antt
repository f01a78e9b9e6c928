use Rattle.std.proofs.Common.{rules, None, Some, refl, sym, subst, ◌∙◌, arith}
use Rattle.sqlite.specs.Held.{state}
use Rattle.mx_layout.specs.Crash.{ChangesNothing}
use Rattle.mx_office.specs.Calls.{HandsIn}
use Rattle.mx_office.proofs.HandLemmas.{handed_more, handed_none, handed_stop, next_taken}
use Rattle.mx_office.proofs.ReplyLemmas.{some_said}
use Rattle.mx_office.proofs.running.run_by_rows.Goals as goal

pub loop-command-init : goal.loop-command-init
loop-command-init g c = record {
  count = search rules;
  room = search rules;
  start = λ _. refl;
  idle = search rules;
  so_far = subst (λ said. HandsIn c.args.commands.now said None (state g.S.Store c.args.conn.now) (state g.S.Store c.args.conn.now)) (sym c.requires.begins) (handed_none c.args.commands.now (state g.S.Store c.args.conn.now));
}

pub loop-command-preserved : goal.loop-command-preserved
loop-command-preserved g c =
    let cs = c.args.commands.now in
    let said = c.loop-command.said.items in
    let next = next_taken cs said c.loop-command.command-index c.command-item.result c.loop-command.invariant.count (omega (arith, c.loop-command-test.true)) c.command-item.is in
    record {
      count = search rules;
      room = search rules;
      start = λ none. absurd (some_said said c.in-Ok.reply (sym c.push_reserved.ensures.items ∙ none));
      idle = c.apply.ensures.idle;
      so_far = subst (λ rs. HandsIn cs rs None (state g.S.Store c.args.conn.now) (state g.S.Store c.apply.new.conn)) (sym c.push_reserved.ensures.items)
          (handed_more cs said c.command-item.result (state g.S.Store c.args.conn.now) (state g.S.Store c.loop-command.conn) (state g.S.Store c.apply.new.conn) next c.loop-command.invariant.so_far (λ none nothing. subst (λ h. ChangesNothing (state g.S.Store h) (state g.S.Store c.apply.new.conn)) (c.loop-command.invariant.start none) nothing) c.in-Ok.reply (record { applies = c.in-Ok.ensures.applies; survives = c.apply.ensures.survives; damage = c.in-Ok.ensures.damage }));
    }

pub returns-in-Err-clause-hands_in : goal.returns-in-Err-clause-hands_in
returns-in-Err-clause-hands_in g c =
    let cs = c.args.commands.now in
    let said = c.loop-command.said.items in
    let next = next_taken cs said c.loop-command.command-index c.command-item.result c.loop-command.invariant.count (omega (arith, c.loop-command-test.true)) c.command-item.is in
    subst (λ f. HandsIn cs said (Some f) (state g.S.Store c.args.conn.now) (state g.S.Store c.apply.new.conn)) (sym c.fault_of.ensures)
    (handed_stop cs said c.command-item.result (state g.S.Store c.args.conn.now) (state g.S.Store c.loop-command.conn) (state g.S.Store c.apply.new.conn) next c.loop-command.invariant.so_far (λ none nothing. subst (λ h. ChangesNothing (state g.S.Store h) (state g.S.Store c.apply.new.conn)) (c.loop-command.invariant.start none) nothing) c.in-Err.fault (record { applies = c.in-Err.ensures.applies; survives = c.apply.ensures.survives; damage = c.in-Err.ensures.damage }))
