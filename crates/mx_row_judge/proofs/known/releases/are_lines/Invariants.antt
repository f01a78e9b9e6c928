use Rattle.std.proofs.Common.{◌≡◌, ℕ, ◌+◌, ◌++◌, length, Ok}
use Rattle.sqlite.specs.Held.{state}
use Rattle.sqlite_rules.specs.Lists.{Has}
use Rattle.mx_book.specs.declared.commands.release.Line.{Line}
use Rattle.mx_registers.specs.Lines.{lines_from}
use Rattle.mx_registers.specs.Registers.{release_line_row}
use Rattle.mx_row_rules.specs.found.Given.{found, release_lines}
use Rattle.mx_lookups.specs.numbers.AnyRows.{ReadsAny}
use Rattle.mx_lookups.specs.numbers.Reads.{Reads}
use Rattle.mx_row_judge.proofs.KnownProofs.KnownLemmas.{IsLined}
use Rattle.mx_row_judge.proofs.known.releases.are_lines.Given as goal

-- the rows of the entry were read; some lines have their rows, and those that are left come behind them and are of all lines
abbrev pub invariant-loop-certified : goal.invariant-loop-certified
invariant-loop-certified g l = record {
  count : l.line + length l.rest ≡ 1 + length l.lines;
  same_reference : l.tx.conn.ghost_name ≡ l.fn.tx.conn.ghost_name;
  reads : Reads (λ book (_ : ℕ). (l.rows.items ≡ found release_lines book l.seq) × (lines_from (release_line_row book) l.seq 1 l.lines ≡ l.given.items ++ lines_from (release_line_row book) l.seq l.line l.rest))
      (state g.S.Store l.fn.tx.conn.now) (state g.S.Store l.tx.conn.now) (Ok 0);
  any_rows : ReadsAny {V = ℕ} (λ trees _. IsLined l.seq l.lines l.line l.rest l.rows.items l.given.items trees) (state g.S.Store l.fn.tx.conn.now) (state g.S.Store l.tx.conn.now) (Ok 0);
  left : (certified : Line) → Has l.rest certified → Has l.lines certified;
}

abbrev pub decreases-loop-certified : goal.decreases-loop-certified
decreases-loop-certified g l = length l.rest
