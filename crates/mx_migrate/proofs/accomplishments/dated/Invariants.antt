use Rattle.std.proofs.Common.{◌≡◌, All, take}
use Rattle.mx_table_rows.specs.totals.Done.{IsDated}
use Rattle.mx_migrate.proofs.accomplishments.dated.Given as goal

-- the rows so far are there, and were tested
abbrev pub invariant-rows : goal.invariant-rows
invariant-rows l = record {
  same : l.dated.items ≡ take l.row-index l.rows;
  tested : All IsDated l.dated.items;
}
