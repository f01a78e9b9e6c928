use Rattle.std.proofs.Common.{rules}
use Rattle.mx_intake.specs.Forms.{position_keys}
use Rattle.mx_intake.specs.Object.{has_other_key}
use Rattle.mx_intake.proofs.positions.have_other_key.Goals as goal

pub returns : goal.returns
returns c = c.one_at.ensures (has_other_key position_keys) (λ v b is. search rules)
