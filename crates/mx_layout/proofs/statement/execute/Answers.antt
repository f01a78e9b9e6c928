use Rattle.std.proofs.Common.{rules, Ok}
use Rattle.mx_layout.proofs.InsideLemmas.{stays_inside, keeps_commit}
use Rattle.mx_layout.proofs.statement.execute.Goals as goal

pub returns-in-Ok-clause-stays : goal.returns-in-Ok-clause-stays
returns-in-Ok-clause-stays g c = record {
  same_reference = c.execute.ensures.same_reference;
  inside = λ clean inside. stays_inside _ _ _ _ (Ok c.in-Ok.field-0) (c.in-Ok.ensures.runs clean inside);
  within = record { survives = c.execute.ensures.survives; kept = λ clean inside. keeps_commit _ _ _ _ c.execute.result (c.execute.ensures.runs clean inside) };
}

pub returns-in-Err-clause-stays : goal.returns-in-Err-clause-stays
returns-in-Err-clause-stays g c = record {
  same_reference = c.execute.ensures.same_reference;
  inside = search rules;
  within = record { survives = c.execute.ensures.survives; kept = λ clean inside. keeps_commit _ _ _ _ c.execute.result (c.execute.ensures.runs clean inside) };
}

pub returns-in-Ok-clause-runs : goal.returns-in-Ok-clause-runs
returns-in-Ok-clause-runs g c clean inside = (c.in-Ok.field-0, c.in-Ok.ensures.runs clean inside)
