use Rattle.std.proofs.Common.{rules}
use Rattle.mx_intake.specs.Forms.{lacks_position_key}
use Rattle.mx_intake.proofs.positions.lack_key.Goals as goal

pub returns : goal.returns
returns c = c.one_at.ensures lacks_position_key (λ v b is. search rules)
