use Rattle.std.proofs.Common.{rules}
use Rattle.mx_intake.specs.Release.{line_keys_exclude}
use Rattle.mx_intake.proofs.lines.have_excluding_keys.Goals as goal

pub returns : goal.returns
returns c = c.one_at.ensures line_keys_exclude (λ v b is. search rules)
