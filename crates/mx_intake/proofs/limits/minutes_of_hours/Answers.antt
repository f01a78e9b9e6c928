use Rattle.std.proofs.Common.{◌*◌}
use Rattle.mx_intake.proofs.TaskLemmas.{if_small-by}
use Rattle.mx_intake.proofs.limits.minutes_of_hours.Goals as goal

pub returns : goal.returns
returns c = if_small-by (c.args.hours * 60) c.checked_mul.result c.checked_mul.ensures
