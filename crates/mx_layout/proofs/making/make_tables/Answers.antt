use Rattle.std.proofs.Common.{◌≡◌, Ok, refl, sym, subst, ◌∙◌, arith}
use Rattle.sqlite.specs.Held.{state}
use Rattle.sqlite.specs.State.{HasCleanDisk}
use Rattle.mx_layout.specs.Making.{IsBlank}
use Rattle.mx_layout.specs.Steps.{steps_of}
use Rattle.mx_layout.proofs.CrashLemmas.{within_itself, within_then}
use Rattle.mx_layout.proofs.InsideLemmas.{keeps_commit}
use Rattle.mx_layout.proofs.StepLemmas.{schema_at, first_schema, last_schema, leads}
use Rattle.mx_layout.proofs.making.make_tables.Goals as goal

pub loop-at-init : goal.loop-at-init
loop-at-init g c = record {
  same_reference = refl;
  within = within_itself _;
  mode = λ _ inside. inside;
  blank = λ _ _ blank. subst (λ s. IsBlank s (state g.S.Store c.args.tx.now.conn.now).now) (sym first_schema) blank;
}

pub loop-at-preserved : goal.loop-at-preserved
loop-at-preserved g c =
    let first = state g.S.Store c.args.tx.now.conn.now in
    let old = state g.S.Store c.loop-at.tx.conn.now in
    let new = state g.S.Store c.execute.new.self.conn.now in
    record {
      same_reference = c.execute.ensures.same_reference ∙ c.loop-at.invariant.same_reference;
      within = within_then first old new c.loop-at.invariant.within c.loop-at.invariant.mode
          (record { survives = c.execute.ensures.survives; kept = λ clean inside. keeps_commit old new _ _ c.execute.result (c.execute.ensures.runs clean inside) });
      mode = λ clean inside.
          let early : HasCleanDisk old = omega (arith, c.execute.ensures.survives.clean) in
          (c.in_ok-execute.ensures.runs clean (c.loop-at.invariant.mode early inside)).1.mode;
      blank = λ clean inside blank.
          let early : HasCleanDisk old = omega (arith, c.execute.ensures.survives.clean) in
          leads c.loop-at.at c.step_text.result.now c.step_text.ensures old new (c.loop-at.invariant.blank early inside blank) (Ok c.in_ok-execute.field-0)
          (c.in_ok-execute.ensures.runs clean (c.loop-at.invariant.mode early inside));
    }

pub returns-in_err-execute-clause-within : goal.returns-in_err-execute-clause-within
returns-in_err-execute-clause-within g c =
    let first = state g.S.Store c.args.tx.now.conn.now in
    let old = state g.S.Store c.loop-at.tx.conn.now in
    let new = state g.S.Store c.execute.new.self.conn.now in
    within_then first old new c.loop-at.invariant.within c.loop-at.invariant.mode
    (record { survives = c.execute.ensures.survives; kept = λ clean inside. keeps_commit old new _ _ c.execute.result (c.execute.ensures.runs clean inside) })

pub returns-clause-mode : goal.returns-clause-mode
returns-clause-mode g c = c.loop-at.invariant.mode

pub returns-clause-makes : goal.returns-clause-makes
returns-clause-makes g c clean inside blank =
    let all : c.loop-at.at ≡ steps_of c.args.layout.0 = omega arith in
    subst (λ s. IsBlank s (state g.S.Store c.loop-at.tx.conn.now).now) (last_schema c.args.layout.0 c.requires) (subst (λ n. IsBlank (schema_at n) (state g.S.Store c.loop-at.tx.conn.now).now) all (c.loop-at.invariant.blank clean inside blank))

pub returns-clause-within : goal.returns-clause-within
returns-clause-within g c = c.loop-at.invariant.within
