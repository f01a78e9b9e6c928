use Rattle.mx_registers.proofs.FileProofs.SpansMade.{span_rows_made}
use Rattle.mx_registers.proofs.file.laws.spans_are_made.Goals as goal

pub returns : goal.returns
returns c = λ book is. span_rows_made book is
