use Rattle.mx_base.proofs.AsciiLemmas.{moment_text-IsUtf8}
use Rattle.mx_tables.proofs.column.written_moment_at.Goals as goal

pub returns-in_err-text_at : goal.returns-in_err-text_at
returns-in_err-text_at c = rw c.from_residual.ensures (λ m low. c.in_err-text_at.ensures _ (moment_text-IsUtf8 m low))
