use Rattle.std.proofs.Common.{rules}
use Rattle.mx_intake.specs.Release.{lacks_line_key}
use Rattle.mx_intake.proofs.lines.lack_key.Goals as goal

pub returns : goal.returns
returns c = c.one_at.ensures lacks_line_key (λ v b is. search rules)
