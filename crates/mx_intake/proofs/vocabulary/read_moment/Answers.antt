use Rattle.std.proofs.Common.{◌∙◌}
use Rattle.mx_intake.proofs.TextLemmas.{moment_of_text-read}
use Rattle.mx_intake.proofs.vocabulary.read_moment.Goals as goal

pub returns-clause-moment : goal.returns-clause-moment
returns-clause-moment c = c.ok.ensures.value ∙ moment_of_text-read c.args.text.now c.read.result c.read.ensures.ok c.read.ensures.err
