use Rattle.std.proofs.Common.{length}
use Rattle.mx_book.specs.commands.Act.{lines_of}
use Rattle.mx_base.specs.rows.Rows.{FitsReleaseLine}
use Rattle.mx_registers.specs.Registers.{release_line_row}
use Rattle.mx_registers.proofs.RowsSoFar.{AreRowsSoFar}
use Rattle.mx_registers.proofs.plain.added.release_line_rows.Given as goal

abbrev pub invariant-loop-certified : goal.invariant-loop-certified
invariant-loop-certified l = AreRowsSoFar (release_line_row l.book) FitsReleaseLine l.seq (lines_of l.command.act) l.rows.items l.line l.rest

abbrev pub decreases-loop-certified : goal.decreases-loop-certified
decreases-loop-certified l = length l.rest
