use Rattle.std.proofs.Common.{rules, not, is_some}
use Rattle.toml.specs.Data.{get}
use Rattle.toml.specs.View.{view}
use Rattle.mx_intake.proofs.table.lacks.Goals as goal

pub returns : goal.returns
returns c = c.one_key.ensures (λ key. not (is_some (get key (view c.args.table.now)))) (λ key b is. search rules)
