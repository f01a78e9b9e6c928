use Rattle.std.proofs.Common.{◌≡◌, take, map, All}
use Rattle.mx_base.specs.rows.Rows.{FitsSpan}
use Rattle.mx_row_rules.specs.changes.Kept.{span_removed}
use Rattle.mx_row_rules.proofs.changes.moves.spans_ended.Given as goal

-- the spans so far are those of the first of these
abbrev pub invariant-spans : goal.invariant-spans
invariant-spans l = record {
  rows : l.rows.items ≡ map (span_removed l.seq l.to) (take l.span-index l.spans);
  fits : All FitsSpan l.rows.items;
}
