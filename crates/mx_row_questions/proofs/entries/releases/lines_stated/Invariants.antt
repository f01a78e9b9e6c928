use Rattle.std.proofs.Common.{◌≡◌, length}
use Rattle.sqlite.specs.Held.{state}
use Rattle.mx_row_questions.proofs.EntriesProofs.LineLemmas.{LinesWalk}
use Rattle.mx_row_questions.proofs.entries.releases.lines_stated.Given as goal

-- some rows said their lines, and the others are left
abbrev pub invariant-loop-row : goal.invariant-loop-row
invariant-loop-row g l = record {
  same_reference : l.tx.conn.ghost_name ≡ l.fn.tx.conn.ghost_name;
  walk : LinesWalk l.seq (state g.S.Store l.fn.tx.conn.now) (state g.S.Store l.tx.conn.now) l.lines.items l.rest;
}

abbrev pub decreases-loop-row : goal.decreases-loop-row
decreases-loop-row g l = length l.rest
