use Rattle.std.proofs.Common.{length}
use Rattle.mx_base.specs.rows.Rows.{FitsPlace}
use Rattle.mx_registers.specs.Registers.{place_row}
use Rattle.mx_registers.proofs.RowsSoFar.{AreRowsSoFar}
use Rattle.mx_registers.proofs.lines.place_rows.Given as goal

abbrev pub invariant-loop-place : goal.invariant-loop-place
invariant-loop-place l = AreRowsSoFar place_row FitsPlace l.seq l.positions l.rows.items l.line l.rest

abbrev pub decreases-loop-place : goal.decreases-loop-place
decreases-loop-place l = length l.rest
