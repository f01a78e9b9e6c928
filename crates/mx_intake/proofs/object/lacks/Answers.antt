use Rattle.std.proofs.Common.{rules, not, is_some}
use Rattle.serde_json.specs.Find.{get}
use Rattle.serde_json.specs.View.{view}
use Rattle.mx_intake.proofs.object.lacks.Goals as goal

pub returns : goal.returns
returns c = c.one_key.ensures (λ key. not (is_some (get key (view c.args.object.now)))) (λ key b is. search rules)
