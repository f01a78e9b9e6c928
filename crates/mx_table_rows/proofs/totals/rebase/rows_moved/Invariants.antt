use Rattle.std.proofs.Common.{◌≡◌, ◌++◌, None, All, drop}
use Rattle.mx_book.specs.due.Moved.{moved}
use Rattle.mx_layout.specs.kept.Cells.{kept_done3}
use Rattle.mx_table_rows.proofs.totals.rebase.rows_moved.Given as goal

-- the rows so far are moved, and the others are to be
abbrev pub invariant-rows : goal.invariant-rows
invariant-rows l = record {
  moved : l.made.items ++ moved l.old l.new (drop l.row-index l.rows) ≡ moved None None l.rows;
  fit : All kept_done3.Fits l.rows → All kept_done3.Fits l.made.items;
}
