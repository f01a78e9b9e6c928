use Rattle.std.proofs.Common.{◌≡◌, ◌+◌, All, length}
use Rattle.sqlite.specs.Held.{state}
use Rattle.sqlite_rules.specs.Lists.{Has}
use Rattle.mx_book.specs.declared.commands.release.Line.{Line}
use Rattle.mx_row_rules.specs.changes.Certified.{HasLifeReached}
use Rattle.mx_apply.proofs.MadeProofs.AnyMadeLemmas.{AnyWalk}
use Rattle.mx_apply.proofs.MadeProofs.ReleaseLemmas.{LinesWalk}
use Rattle.mx_apply.proofs.made.releases.release_known.Given as goal

-- something is known of some lines, and the others, which are of all lines, are left
abbrev pub invariant-loop-line : goal.invariant-loop-line
invariant-loop-line g l = record {
  same_reference : l.tx.conn.ghost_name ≡ l.fn.tx.conn.ghost_name;
  walk : LinesWalk l.release l.lines l.number l.kind (state g.S.Store l.fn.tx.conn.now) (state g.S.Store l.tx.conn.now) l.known.items l.rest;
  any_rows : AnyWalk l.release.place l.lines l.number l.kind (state g.S.Store l.fn.tx.conn.now) (state g.S.Store l.tx.conn.now) l.known.items l.rest;
  left : (line : Line) → Has l.rest line → Has l.lines line;
  each : length l.known.items + length l.rest ≡ length l.lines;
  lives : All HasLifeReached l.known.items;
}

abbrev pub decreases-loop-line : goal.decreases-loop-line
decreases-loop-line g l = length l.rest
