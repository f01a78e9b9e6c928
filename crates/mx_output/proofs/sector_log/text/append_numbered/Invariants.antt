use Rattle.std.proofs.Common.{◌≡◌, ◌+◌, ◌++◌, length}
use Rattle.mx_reports.specs.Words.{StartsWith}
use Rattle.mx_output.specs.sector_log.Text.{row_lines_from}
use Rattle.mx_output.proofs.sector_log.text.append_numbered.Given as goal

-- so far, and what is left, give the whole; each row has its number; and what was there before is there still
abbrev pub invariant-loop-row : goal.invariant-loop-row
invariant-loop-row l = record {
  whole : l.out.items ++ row_lines_from (l.number + 1) l.rest ≡ l.initial.out.items ++ row_lines_from 1 l.rows;
  counted : l.number + length l.rest ≡ length l.rows;
  kept : StartsWith l.initial.out.items l.out.items;
}

abbrev pub decreases-loop-row : goal.decreases-loop-row
decreases-loop-row l = length l.rest
