use Rattle.mx_layout.proofs.PointLemmas.{no_layout, no_step, no_mark}
use Rattle.mx_layout.proofs.reading.point_of.Goals as goal

pub returns-in_err-byte_at : goal.returns-in_err-byte_at
returns-in_err-byte_at c = rw c.from_residual-in_err-byte_at.ensures (no_layout _ c.in_err-byte_at.ensures)

pub returns-in_err-byte_at-2 : goal.returns-in_err-byte_at-2
returns-in_err-byte_at-2 c = rw c.from_residual-in_err-byte_at-2.ensures (no_step _ c.in_err-byte_at-2.ensures)

pub returns-in_err-number_at-2 : goal.returns-in_err-number_at-2
returns-in_err-number_at-2 c = rw c.from_residual-in_err-number_at-2.ensures (no_mark _ c.in_err-number_at-2.ensures)
