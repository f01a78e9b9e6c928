use Rattle.std.proofs.Common.{◌∙◌, ap, sym, Ok, Err}
use Rattle.mx_intake.proofs.ReadingLemmas.{text_of_bytes-long, text_of_bytes-no_text, text_of_bytes-text}
use Rattle.mx_intake.proofs.text.text_of.Goals as goal

pub returns-then-bytes-gt-MOST_BYTES-clause-err : goal.returns-then-bytes-gt-MOST_BYTES-clause-err
returns-then-bytes-gt-MOST_BYTES-clause-err c = text_of_bytes-long _ c.if-bytes-gt-MOST_BYTES.true ∙ ap Err (sym c.of_whole.ensures)

pub returns-in-Ok-clause-ok : goal.returns-in-Ok-clause-ok
returns-in-Ok-clause-ok c = text_of_bytes-text _ c.if-bytes-gt-MOST_BYTES.false c.in-Ok.ensures.cases.1 ∙ ap Ok (sym c.in-Ok.ensures.cases.0)

pub returns-in-Err-clause-err : goal.returns-in-Err-clause-err
returns-in-Err-clause-err c = text_of_bytes-no_text _ c.if-bytes-gt-MOST_BYTES.false c.in-Err.ensures.cases.0 ∙ ap Err (sym c.of_whole-in-Err.ensures)
