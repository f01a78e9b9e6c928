use Rattle.mx_intake.proofs.TaskLemmas.{behind-strip_prefix}
use Rattle.mx_intake.proofs.task.behind.Goals as goal

pub returns : goal.returns
returns c = behind-strip_prefix c.args.prefix.now c.args.text.now c.strip_prefix.result c.strip_prefix.ensures.cases
