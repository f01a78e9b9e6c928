use Rattle.std.proofs.Common.{◌∙◌}
use Rattle.mx_intake.proofs.TextLemmas.{day_of_text-read}
use Rattle.mx_intake.proofs.vocabulary.read_day.Goals as goal

pub returns-clause-day : goal.returns-clause-day
returns-clause-day c = c.ok.ensures.value ∙ day_of_text-read c.args.text.now c.read.result c.read.ensures.ok c.read.ensures.err
