use Rattle.std.proofs.Common.{rules}
use Rattle.mx_intake.specs.Object.{has_other_key}
use Rattle.mx_intake.specs.Release.{line_keys}
use Rattle.mx_intake.proofs.lines.have_other_key.Goals as goal

pub returns : goal.returns
returns c = c.one_at.ensures (has_other_key line_keys) (λ v b is. search rules)
