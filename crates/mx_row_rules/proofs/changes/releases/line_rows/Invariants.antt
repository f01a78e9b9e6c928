use Rattle.std.proofs.Common.{length}
use Rattle.mx_base.specs.rows.Rows.{FitsReleaseLine}
use Rattle.mx_registers.proofs.RowsSoFar.{AreRowsSoFar}
use Rattle.mx_row_rules.specs.changes.Certified.{line_made}
use Rattle.mx_row_rules.proofs.changes.releases.line_rows.Given as goal

abbrev pub invariant-loop-certified : goal.invariant-loop-certified
invariant-loop-certified l = AreRowsSoFar line_made FitsReleaseLine l.seq l.lines l.rows.items l.line l.rest

abbrev pub decreases-loop-certified : goal.decreases-loop-certified
decreases-loop-certified l = length l.rest
